-- Where a name is declared, and which methods its type has.
use Rattle.std.proofs.Common.{◌≡◌, ℕ, suc, ◌+◌, Bool, true, false, ◌||◌, List, [], ◌∷◌, Option, Some, None, refl, sym, ap, subst, ◌⊎◌, inl, inr, arith}
use Rattle.std.specs.Prelude.{if◌then◌else◌, slice_get}
use Rattle.std.specs.Option.{option_or}
use Rattle.std.specs.Str.{bytes_eq}
use Rattle.std.proofs.lemmas.Slice.Eq.{bytes_eq-Decides}
use Rattle.go_base.specs.Lists.{Has}
use Rattle.go_typings.specs.go_rules.Asks.{texts}
use Rattle.go_typings.specs.go_rules.Expressions.{is_blank}
use Rattle.go_typings.specs.go_syntax.declared.declaration.TypeSpec.{TypeSpec}
use Rattle.go_typings.specs.Declarations.{Form, definition, Declaration, Declared, declared, declared_by, declared_from, is_init, names_of, place_from}
use Rattle.go_typings.specs.Receivers.{DeclaredMethod, declared_methods, is_selectable, methods}
use Rattle.go_typings.specs.Sources.{PackageSource}
use Rattle.go_typings.proofs.Cells.{none_some, some_once}
use Rattle.go_soundness.proofs.Members.{filtered}

-- the declaration of a name, and that the name is one of its own
pub record IsAt (ds : List Declaration) (name : List ℕ) (w : Declared) : Type 0 where
  pub declaration : Declaration
  pub is : slice_get ds w.number ≡ Some declaration
  pub form : declaration.form ≡ w.form
  pub place : place_from 0 (texts (names_of w.form)) name ≡ Some w.place

-- the same by the number from the first of the declarations on
record IsFrom (k : ℕ) (ds : List Declaration) (name : List ℕ) (w : Declared) : Type 0 where
  behind : ℕ
  number : w.number ≡ k + behind
  declaration : Declaration
  is : slice_get ds behind ≡ Some declaration
  form : declaration.form ≡ w.form
  place : place_from 0 (texts (names_of w.form)) name ≡ Some w.place

or_cases : (c x : Option Declared) (w : Declared) → option_or c x ≡ Some w → (c ≡ Some w) ⊎ (x ≡ Some w)
or_cases None x w e = inr e
or_cases (Some y) x w e = inl e

by_form : (k : ℕ) (f : Form) (c : Option ℕ) (w : Declared) → declared_by k f c ≡ Some w → (w.number ≡ k) × (f ≡ w.form) × (c ≡ Some w.place)
by_form k f None w e = none_some (declared_by k f None) w refl e
by_form k f (Some p) w e =
    let q = some_once (record { number = k; form = f; place = p }) w e in
    (sym (ap (λ (z : Declared). z.number) q), ap (λ (z : Declared). z.form) q, ap (λ (z : Declared). Some z.place) q)

from_here : (k : ℕ) (d : Declaration) (ds : List Declaration) (name : List ℕ) (w : Declared) → declared_by k d.form (place_from 0 (texts (names_of d.form)) name) ≡ Some w → IsFrom k (d ∷ ds) name w
from_here k d ds name w e =
    let q = by_form k d.form (place_from 0 (texts (names_of d.form)) name) w e in
    record { behind = 0; number = (let n = q.0 in omega (arith, n)); declaration = d; is = refl; form = q.1; place = subst (λ f. place_from 0 (texts (names_of f)) name ≡ Some w.place) q.1 q.2 }

from_later : (k : ℕ) (d : Declaration) (ds : List Declaration) (name : List ℕ) (w : Declared) → IsFrom (suc k) ds name w → IsFrom k (d ∷ ds) name w
from_later k d ds name w f = record { behind = suc f.behind; number = (let n = f.number in omega (arith, n)); declaration = f.declaration; is = f.is; form = f.form; place = f.place }

from_at : (k : ℕ) (ds : List Declaration) (name : List ℕ) (w : Declared) → declared_from k ds name ≡ Some w → IsFrom k ds name w
from_at k [] name w e = none_some (declared_from k [] name) w refl e
from_at k (d ∷ ds) name w e = elim (or_cases (declared_by k d.form (place_from 0 (texts (names_of d.form)) name)) (declared_from (suc k) ds name) w e) [
  | inl f ↦ from_here k d ds name w f
  | inr f ↦ from_later k d ds name w (from_at (suc k) ds name w f)
]

unless : (b : Bool) (x : Option Declared) (w : Declared) → (if b then None else x) ≡ Some w → x ≡ Some w
unless true x w e = none_some {A = Declared} None w refl e
unless false x w e = e

pub is_at : (ds : List Declaration) (name : List ℕ) (w : Declared) → declared ds name ≡ Some w → IsAt ds name w
is_at ds name w e =
    let f = from_at 0 ds name w (unless (is_blank name || is_init name) (declared_from 0 ds name) w e) in
    let n = f.number in let m : f.behind ≡ w.number = omega (arith, n) in
    record { declaration = f.declaration; is = subst (λ (k : ℕ). slice_get ds k ≡ Some f.declaration) m f.is; form = f.form; place = f.place }

only_name : (m name : List ℕ) (p : ℕ) → place_from 0 (m ∷ []) name ≡ Some p → m ≡ name
only_name m name p e = choose (bytes_eq m name) refl e
  where
    choose : (b : Bool) → bytes_eq m name ≡ b → (if b then Some 0 else place_from 1 [] name) ≡ Some p → m ≡ name
    choose true f g = (bytes_eq-Decides m name).0 f
    choose false f g = none_some (place_from 1 [] name) p refl g

-- a defined type is declared by its own name
pub own_name : (ds : List Declaration) (name : List ℕ) (w : Declared) (s : TypeSpec) → declared ds name ≡ Some w → w.form ≡ definition s → s.name.text ≡ name
own_name ds name w s e f = only_name s.name.text name w.place (subst (λ z. place_from 0 (texts (names_of z)) name ≡ Some w.place) f (is_at ds name w e).place)

pub method_declared : (u : PackageSource) (type : List ℕ) (m : DeclaredMethod) → Has (methods u type) m → Has (declared_methods u type) m
method_declared u type m h = filtered is_selectable (declared_methods u type) m h
