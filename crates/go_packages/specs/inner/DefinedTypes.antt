-- The defined types of names, each with its methods in order.
-- Own: words of the contracts inside this crate.
use Rattle.std.specs.Prelude.{◌≡◌, ℕ, List, [], ◌∷◌, ◌++◌, Option, None, Some}
use Rattle.go_model.specs.declared.types.package.Defined.{Defined}
use Rattle.go_model.specs.declared.types.term.Term.{Term}
use Rattle.go_packages.specs.inner.HadMethods.{AreSorted}
use Rattle.go_typings.specs.Declarations.{Declared, Form, definition}
use Rattle.go_typings.specs.PackageEnvironments.{Entries, underlying_of}

abbrev pub underneath_by : Entries → ℕ → Form → Option Term
underneath_by a number (definition s) = underlying_of (a number)
underneath_by a number f = None

-- the type underneath the defined type of a name that is declared there
abbrev pub underneath : Entries → Option Declared → Option Term
underneath a None = None
underneath a (Some d) = underneath_by a d.number d.form

-- the defined type is the other with its methods in order
pub record IsSorted (had d : Defined) : Type 0 where
  pub name : d.name ≡ had.name
  pub underlying : d.underlying ≡ had.underlying
  pub methods : AreSorted had.methods d.methods

-- the new list has the defined type behind the old one, where there is one
abbrev pub Adds : Option Defined → List Defined → List Defined → Type 0
Adds None old new = new ≡ old
Adds (Some had) old new = (d : Defined) × IsSorted had d × (new ≡ old ++ d ∷ [])

-- the defined types that these names have, in their order
pub data AreDefined (own : List ℕ → Option Defined) : List (List ℕ) → List Defined → Type 0 where
  defined_none : AreDefined own [] []
  defined_without : {name : List ℕ} {names : List (List ℕ)} {ds : List Defined} → own name ≡ None → AreDefined own names ds → AreDefined own (name ∷ names) ds
  defined_more : {name : List ℕ} {names : List (List ℕ)} {had d : Defined} {ds : List Defined} → own name ≡ Some had → IsSorted had d → AreDefined own names ds → AreDefined own (name ∷ names) (d ∷ ds)
