-- The defined types of a world with one more package, whose path it hasn't.
use Rattle.std.proofs.Common.{◌≡◌, ◌≢◌, ℕ, List, [], ◌∷◌, map, inl, inr, Bool, true, false, Option, Some, None, refl, sym, ap, ◌∙◌, subst, if◌then◌else◌}
use mathlib.Core.Bool.{true≢false}
use Rattle.std.specs.Cmp.Lexicographic.{slice_cmp}
use Rattle.std.specs.Ordering.{is_lt, nat_cmp}
use Rattle.std.specs.Str.{bytes_eq}
use Rattle.std.proofs.lemmas.Slice.Eq.{bytes_eq-Decides}
use Rattle.go_base.specs.Keys.{first_with, placed}
use Rattle.go_base.specs.Lists.{Has}
use Rattle.go_model.proofs.MoreWorlds.{first_placed}
use Rattle.go_model.specs.declared.types.names.Sel.{Sel}
use Rattle.go_model.specs.declared.types.names.TypeName.{TypeName}
use Rattle.go_model.specs.declared.types.package.Defined.{Defined}
use Rattle.go_model.specs.declared.types.package.Package.{Package}
use Rattle.go_model.specs.types.Terms.{error_type, is_error}
use Rattle.go_model.specs.worlds.Worlds.{IsOwned, Packages, defined_in, name_of, path_of, table_of}
use Rattle.worlds.specs.inner.Admission.{IsThere, joint, joint_paths}

either : {A : Type 0} (P : A → Type 0) (b : Bool) (u v : A) → (b ≡ true → P u) → (b ≡ false → P v) → P (if b then u else v)
either P true u v f g = f refl
either P false u v f g = g refl

-- a new key finds its item
own_placed : {A : Type 0} (key : A → List ℕ) (y : A) (xs : List A) → (Has (map key xs) (key y) → ⊥) → first_with key (placed key y xs) (key y) ≡ Some y
own_placed key y [] new = ap (λ b. if b then Some y else None) ((bytes_eq-Decides (key y) (key y)).1 refl)
own_placed {A} key y (x ∷ xs) new =
    let later : first_with key (placed key y xs) (key y) ≡ Some y = own_placed key y xs (λ h. new (inr h)) in
    either (λ (v : List A). first_with key v (key y) ≡ Some y) (is_lt (slice_cmp nat_cmp (key y) (key x))) (y ∷ x ∷ xs) (x ∷ placed key y xs)
    (λ e. ap (λ b. if b then Some y else first_with key (x ∷ xs) (key y)) ((bytes_eq-Decides (key y) (key y)).1 refl))
    (λ e. either (λ (o : Option A). o ≡ Some y) (bytes_eq (key x) (key y)) (Some x) (first_with key (placed key y xs) (key y)) (λ s. absurd (new (inl ((bytes_eq-Decides (key x) (key y)).0 s)))) (λ s. later))

some_none : {A : Type 0} (x : A) → Some x ≡ None → ⊥
some_none x e = absurd (cc)

pub error_there : (w : Packages) (p : Package) (n : TypeName) → is_error n ≡ true → IsThere w p n
error_there w p n e = subst (λ (b : Bool). (if b then Some error_type else joint w p n) ≢ None) (sym e) (λ s. absurd (cc))

table_there : (w : Packages) (p : Package) (n : TypeName) → joint w p n ≢ None → IsThere w p n
table_there w p n h = by (is_error n) refl
  where
    by : (b : Bool) → is_error n ≡ b → IsThere w p n
    by true e = error_there w p n e
    by false e = subst (λ (b : Bool). (if b then Some error_type else joint w p n) ≢ None) (sym e) h

module _ (w : Packages) (p : Package) (new : Has (map path_of w.packages) p.path → ⊥) (n : TypeName) where
  pub own_there : p.path ≡ n.path → (ds : List Defined) (k : List ℕ) (d : Defined) → ds ≡ p.defined → k ≡ n.name → Some d ≡ first_with name_of ds k → IsThere w p n
  own_there e ds k d a b found =
      let own : Some d ≡ first_with name_of p.defined n.name = found ∙ (λ i. first_with name_of (a i) (b i)) in
      let first : first_with path_of (placed path_of p w.packages) n.path ≡ Some p = subst (λ (m : List ℕ). first_with path_of (placed path_of p w.packages) m ≡ Some p) e (own_placed path_of p w.packages new) in
      table_there w p n (λ s. some_none d (own ∙ ap (λ o. defined_in o n.name) (sym first) ∙ s))

pub other_there : (w : Packages) (p : Package) (n : TypeName) → (p.path ≡ n.path → ⊥) → (d : Defined) → Some d ≡ table_of w.packages n → IsThere w p n
other_there w p n e d h = by (bytes_eq p.path n.path) refl
  where
    by : (b : Bool) → bytes_eq p.path n.path ≡ b → IsThere w p n
    by true s = absurd (e ((bytes_eq-Decides p.path n.path).0 s))
    by false s = table_there w p n (λ k. some_none d (h ∙ ap (λ o. defined_in o n.name) (sym (first_placed path_of p w.packages n.path s)) ∙ k))

-- a key that finds an item is one of its list, and one that finds none isn't
module _ {A : Type 0} (key : A → List ℕ) (k : List ℕ) where
  has_more : (y x : A) (xs : List A) (b : Bool) → bytes_eq (key y) k ≡ b → (Some x ≡ first_with key xs k → Has (map key xs) k) → Some x ≡ first_with key (y ∷ xs) k → Has (map key (y ∷ xs)) k
  has_more y x xs true s later h = inl ((bytes_eq-Decides (key y) k).0 s)
  has_more y x xs false s later h = inr (later (h ∙ ap (λ b. if b then Some y else first_with key xs k) s))

  pub first_has : (xs : List A) (x : A) → Some x ≡ first_with key xs k → Has (map key xs) k
  first_has [] x h = absurd (some_none x h)
  first_has (y ∷ xs) x h = has_more y x xs (bytes_eq (key y) k) refl (first_has xs x) h

  none_more : (y : A) (xs : List A) (b : Bool) → bytes_eq (key y) k ≡ b → (None ≡ first_with key xs k → Has (map key xs) k → ⊥) → None ≡ first_with key (y ∷ xs) k → Has (map key (y ∷ xs)) k → ⊥
  none_more y xs true s later h has = some_none y (sym (h ∙ ap (λ b. if b then Some y else first_with key xs k) s))
  none_more y xs false s later h (inl e) = true≢false (sym ((bytes_eq-Decides (key y) k).1 e) ∙ s)
  none_more y xs false s later h (inr i) = later (h ∙ ap (λ b. if b then Some y else first_with key xs k) s) i

  has_first : (xs : List A) → None ≡ first_with key xs k → Has (map key xs) k → ⊥
  has_first [] h has = has
  has_first (y ∷ xs) h has = none_more y xs (bytes_eq (key y) k) refl (has_first xs) h has

pub none_has : {A : Type 0} (key : A → List ℕ) (xs : List A) (k m : List ℕ) → k ≡ m → None ≡ first_with key xs k → Has (map key xs) m → ⊥
none_has key xs k m e h has = has_first key m xs (h ∙ ap (first_with key xs) e) has

pub other_owned : (w : Packages) (p : Package) (s : Sel) (k : List ℕ) (q : Package) → k ≡ s.«package» → Some q ≡ first_with path_of w.packages k → IsOwned (joint_paths w p) s
other_owned w p s k q e h = inr (inr (first_has path_of s.«package» w.packages q (h ∙ ap (first_with path_of w.packages) e)))
