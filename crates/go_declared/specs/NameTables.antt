-- Tables that tell where a package declares a name.
-- Public source: Go specification, "Declarations and scope" and "Uniqueness of identifiers".
use Rattle.std.specs.Prelude.{◌≡◌, ℕ, Bool, false, nat_eq, List, map, Option, None, Some}
use Rattle.std.specs.Map.{keys_of}
use Rattle.go_rules.specs.Names.{Named, value_at}
use Rattle.go_declarations.specs.Forms.{form_of}
use Rattle.go_declarations.specs.declared.form.Form.{Form as Borrowed}
use Rattle.go_declarations.specs.go_typings.Declarations.{declared, Declaration, Declared, Form}
use Rattle.go_declared.specs.declared.names.ListedName.{ListedName}
use Rattle.go_declared.specs.declared.names.NamePlace.{NamePlace}

-- where a name is declared, its form aside
abbrev pub place_of : Option Declared → Option NamePlace
place_of None = None
place_of (Some d) = Some (record { number = d.number; place = d.place })

-- the table tells where each name is declared
abbrev pub AreDeclared : List Declaration → Named NamePlace → Type 0
AreDeclared ds names = (name : List ℕ) → value_at names name ≡ place_of (declared ds name)

-- the place is in the declaration of this number
abbrev pub is_in : ℕ → Option NamePlace → Bool
is_in number None = false
is_in number (Some p) = nat_eq p.number number

-- the table tells that the declaration of this number is the first that declares the name
abbrev pub is_first : Named NamePlace → ℕ → List ℕ → Bool
is_first names number name = is_in number (value_at names name)

-- the names of a table, in its order
abbrev pub names_in : {A : Type 0} → Named A → List (List ℕ)
names_in t = keys_of t

-- the names of a listing
abbrev pub texts_of : List ListedName → List (List ℕ)
texts_of names = map (λ n. n.name.now) names

-- the names of a listing, each with its place
abbrev pub entries_of : List ListedName → Named NamePlace
entries_of names = map (λ n. (n.name.now, n.place)) names

-- ---- the forms of declarations

abbrev pub found_form : Option Borrowed → Option Form
found_form None = None
found_form (Some f) = Some (form_of f)

abbrev pub declared_form : Option Declared → Option Form
declared_form None = None
declared_form (Some d) = Some d.form
