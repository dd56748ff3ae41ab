-- The declaration by which a name is declared first.
use Rattle.std.proofs.Common.{◌≡◌, ℕ, suc, ◌+◌, Bool, true, false, ◌||◌, List, [], ◌∷◌, Option, Some, None, refl, sym, ap, ◌∙◌, subst, arith}
use Rattle.std.specs.Prelude.{if◌then◌else◌, slice_get}
use Rattle.std.specs.Cmp.Lexicographic.{bytes_decides}
use Rattle.std.specs.Option.{option_or}
use Rattle.std.specs.Str.{bytes_eq}
use Rattle.go_rules.specs.Asks.{texts}
use Rattle.go_rules.specs.Expressions.{is_blank}
use Rattle.go_syntax.specs.declared.declaration.TypeSpec.{TypeSpec}
use Rattle.go_typings.specs.Declarations.{definition, Declaration, Declared, declared, declared_by, declared_from, is_init, names_of, place_from}
use Rattle.go_typings.proofs.Cells.{none_some, some_once}

-- where these declarations, of which the first has the number `first`, declare the name
record StandsBehind (first : ℕ) (ds : List Declaration) (name : List ℕ) (w : Declared) : Type 0 where
  behind : ℕ
  number : w.number ≡ first + behind
  declaration : Declaration
  is : slice_get ds behind ≡ Some declaration
  form : declaration.form ≡ w.form
  place : place_from 0 (texts (names_of w.form)) name ≡ Some w.place

later : (first : ℕ) (d : Declaration) (ds : List Declaration) (name : List ℕ) (w : Declared) → StandsBehind (suc first) ds name w → StandsBehind first (d ∷ ds) name w
later first d ds name w s = record { behind = suc s.behind; number = (let n = s.number in omega (arith, n)); declaration = s.declaration; is = s.is; form = s.form; place = s.place }

here_or_later : (first : ℕ) (d : Declaration) (ds : List Declaration) (name : List ℕ) (place : Option ℕ) (rest : Option Declared) (w : Declared) → place_from 0 (texts (names_of d.form)) name ≡ place
    → option_or (declared_by first d.form place) rest ≡ Some w → (rest ≡ Some w → StandsBehind (suc first) ds name w) → StandsBehind first (d ∷ ds) name w
here_or_later first d ds name None rest w e h more = later first d ds name w (more h)
here_or_later first d ds name (Some place) rest w e h more =
    subst (StandsBehind first (d ∷ ds) name) (some_once (record { number = first; form = d.form; place = place }) w h)
    (record { behind = 0; number = omega arith; declaration = d; is = refl; form = refl; place = e })

stands_behind : (first : ℕ) (ds : List Declaration) (name : List ℕ) (w : Declared) → declared_from first ds name ≡ Some w → StandsBehind first ds name w
stands_behind first [] name w e = none_some (declared_from first [] name) w refl e
stands_behind first (d ∷ ds) name w e = here_or_later first d ds name (place_from 0 (texts (names_of d.form)) name) (declared_from (suc first) ds name) w refl e (stands_behind (suc first) ds name w)

unless : (left_out : Bool) (x : Option Declared) (w : Declared) → (if left_out then None else x) ≡ Some w → x ≡ Some w
unless true x w e = none_some {A = Declared} None w refl e
unless false x w e = e

stands : (ds : List Declaration) (name : List ℕ) (w : Declared) → declared ds name ≡ Some w → StandsBehind 0 ds name w
stands ds name w e = stands_behind 0 ds name w (unless (is_blank name || is_init name) (declared_from 0 ds name) w e)

-- a name is declared in the form of the declaration of that number
pub form_of : (ds : List Declaration) (name : List ℕ) (w : Declared) (n : ℕ) (d : Declaration) → declared ds name ≡ Some w → w.number ≡ n → slice_get ds n ≡ Some d → w.form ≡ d.form
form_of ds name w n d e same at =
    let s = stands ds name w e in
    let number = s.number in
    let there : s.behind ≡ n = omega (arith, number, same) in
    sym s.form ∙ ap (λ (z : Declaration). z.form) (some_once s.declaration d (sym s.is ∙ ap (slice_get ds) there ∙ at))

-- a defined type is declared by its own name
pub own_name : (ds : List Declaration) (name : List ℕ) (w : Declared) (spec : TypeSpec) → declared ds name ≡ Some w → w.form ≡ definition spec → spec.name.text ≡ name
own_name ds name w spec e form = by (bytes_eq spec.name.text name) refl (subst (λ f. place_from 0 (texts (names_of f)) name ≡ Some w.place) form (stands ds name w e).place)
  where
    by : (same : Bool) → bytes_eq spec.name.text name ≡ same → (if same then Some 0 else place_from 1 [] name) ≡ Some w.place → spec.name.text ≡ name
    by true same at = (bytes_decides spec.name.text name).0 same
    by false same at = none_some (place_from 1 [] name) w.place refl at
