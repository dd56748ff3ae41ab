-- In a package that has a typing each declaration is sound.
use Rattle.std.proofs.Common.{◌≡◌, ℕ, suc, ◌+◌, ◌<◌, Bool, true, false, ◌||◌, List, [], ◌∷◌, Option, Some, None, length, refl, sym, ap, ◌⊎◌, inl, inr, arith}
use Rattle.std.specs.Prelude.{if◌then◌else◌, nat_lt}
use Rattle.std.specs.Option.{option_or}
use Rattle.std.proofs.lemmas.Bool.Decides.{nat_tests}
use Rattle.go_references.specs.go_base.Lists.{Has}
use Rattle.go_references.proofs.go_base_proofs.Members.{has_split}
use Rattle.go_rules.specs.Asks.{texts}
use Rattle.go_rules.specs.Expressions.{is_blank}
use Rattle.go_typings.specs.Assignments.{all_of}
use Rattle.go_typings.specs.Declarations.{Form, constants, variables, alias, definition, function, method, Declaration, Declared, declarations, declared, declared_by, declared_from, is_init, names_of, place_from}
use Rattle.go_typings.specs.PackageEnvironments.{Entries}
use Rattle.go_typings.specs.Receivers.{DeclaredMethod, base, is_named, method_by, methods_from}
use Rattle.go_typings.specs.References.{HasMethods, DependsOn, by_name, to_method}
use Rattle.go_typings.specs.Sources.{PackageSource, Setting}
use Rattle.go_typings.specs.Typings.{IsClosed, IsSound, IsTyping}
use Rattle.go_typings.proofs.Cells.{none_some, some_once}

by_number : (n : ℕ) (f : Form) (p : Option ℕ) (d : Declared) → declared_by n f p ≡ Some d → d.number ≡ n
by_number n f None d e = none_some (declared_by n f None) d refl e
by_number n f (Some p) d e = ap (λ (z : Declared). z.number) (sym (some_once (record { number = n; form = f; place = p }) d e))

or_cases : (c x : Option Declared) (d : Declared) → option_or c x ≡ Some d → (c ≡ Some d) ⊎ (x ≡ Some d)
or_cases None x d e = inr e
or_cases (Some y) x d e = inl e

here : (k n l : ℕ) → n ≡ k → n < k + suc l
here k n l e = omega (arith, e)

later : (k n l : ℕ) → n < suc k + l → n < k + suc l
later k n l h = omega (arith, h)

from_within : (k : ℕ) (ds : List Declaration) (name : List ℕ) (d : Declared) → declared_from k ds name ≡ Some d → d.number < k + length ds
from_within k [] name d e = none_some (declared_from k [] name) d refl e
from_within k (x ∷ xs) name d e = choose (or_cases (declared_by k x.form (place_from 0 (texts (names_of x.form)) name)) (declared_from (suc k) xs name) d e) (λ f. from_within (suc k) xs name d f)
  where
    choose : (declared_by k x.form (place_from 0 (texts (names_of x.form)) name) ≡ Some d) ⊎ (declared_from (suc k) xs name ≡ Some d) → (declared_from (suc k) xs name ≡ Some d → d.number < suc k + length xs) → d.number < k + suc (length xs)
    choose (inl f) r = here k d.number (length xs) (by_number k x.form (place_from 0 (texts (names_of x.form)) name) d f)
    choose (inr f) r = later k d.number (length xs) (r f)

unless : (b : Bool) (x : Option Declared) (d : Declared) → (if b then None else x) ≡ Some d → x ≡ Some d
unless true x d e = none_some {A = Declared} None d refl e
unless false x d e = e

named_within : (u : PackageSource) (name : List ℕ) (d : Declared) → declared (declarations u) name ≡ Some d → d.number < length (declarations u)
named_within u name d e = let h = from_within 0 (declarations u) name d (unless (is_blank name || is_init name) (declared_from 0 (declarations u) name) d e) in omega (arith, h)

if_has : (b : Bool) (x m : DeclaredMethod) → Has (if b then x ∷ [] else []) m → x ≡ m
if_has true x m (inl e) = e
if_has true x m (inr h) = absurd h
if_has false x m h = absurd h

method_number : (u : PackageSource) (type : List ℕ) (n : ℕ) (f : Form) (m : DeclaredMethod) → Has (method_by u type n f) m → m.number ≡ n
method_number u type n (method r f) m h = sym (ap (λ (z : DeclaredMethod). z.number) (if_has (is_named type (base (declarations u) r)) _ m h))
method_number u type n (constants s p) m h = absurd h
method_number u type n (variables s) m h = absurd h
method_number u type n (alias s) m h = absurd h
method_number u type n (definition s) m h = absurd h
method_number u type n (function f) m h = absurd h

methods_within : (u : PackageSource) (type : List ℕ) (k : ℕ) (ds : List Declaration) (m : DeclaredMethod) → Has (methods_from u type k ds) m → m.number < k + length ds
methods_within u type k [] m h = absurd h
methods_within u type k (x ∷ xs) m h = choose (has_split (method_by u type k x.form) (methods_from u type (suc k) xs) m h) (λ i. methods_within u type (suc k) xs m i)
  where
    choose : Has (method_by u type k x.form) m ⊎ Has (methods_from u type (suc k) xs) m → (Has (methods_from u type (suc k) xs) m → m.number < suc k + length xs) → m.number < k + suc (length xs)
    choose (inl i) r = here k m.number (length xs) (method_number u type k x.form m i)
    choose (inr i) r = later k m.number (length xs) (r i)

has_method_within : (u : PackageSource) (f : Form) (n : ℕ) → HasMethods u f n → n < length (declarations u)
has_method_within u (definition s) n (m, h, e) = let l = methods_within u s.name.text 0 (declarations u) m h in omega (arith, l, e)
has_method_within u (constants s p) n h = absurd h
has_method_within u (variables s) n h = absurd h
has_method_within u (alias s) n h = absurd h
has_method_within u (function f) n h = absurd h
has_method_within u (method r f) n h = absurd h

pub refers_within : (u : PackageSource) (f : Form) (n : ℕ) → DependsOn u f n → n < length (declarations u)
refers_within u f n (by_name r h (d, e, p)) = let l = named_within u r.name.text d e in omega (arith, l, p)
refers_within u f n (to_method h) = has_method_within u f n h

pub within : (n l : ℕ) → n < l → nat_lt n l ≡ true
within n l h = grind (arith, nat_tests, h)

all_closed : (s : Setting) (u : PackageSource) → IsClosed s u (all_of (declarations u))
all_closed s u m n i k = within n (length (declarations u)) (refers_within u k.0.form n k.2)

pub typed_sound : (s : Setting) (u : PackageSource) (a : Entries) → IsTyping s u a → (n : ℕ) → n < length (declarations u) → IsSound s u n
typed_sound s u a t n l = record { within = all_of (declarations u); entries = a; holds = within n (length (declarations u)) l; closed = all_closed s u; typing = t }
