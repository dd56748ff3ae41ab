-- What stands at paths while packages are typed one after another.
use Rattle.std.proofs.Common.{◌≡◌, ◌⊎◌, ℕ, Bool, true, false, List, [], ◌∷◌, Some, None, map, refl, sym, ap, ◌∙◌, subst, inl, inr}
use Rattle.std.specs.Prelude.{if◌then◌else◌}
use Rattle.std.specs.Str.{bytes_eq}
use Rattle.std.proofs.lemmas.Slice.Eq.{bytes_eq-Decides}
use Rattle.go_base.specs.Keys.{first_with}
use Rattle.go_base.specs.Lists.{Has, Once}
use Rattle.go_base.proofs.Ordered.{first_key}
use Rattle.go_model.proofs.MoreWorlds.{first_placed}
use Rattle.go_model.specs.worlds.Worlds.{Packages, path_of}
use Rattle.go_typed_packages.proofs.Lists.{absent, own_placed}
use Rattle.go_typings.proofs.Cells.{either}
use Rattle.go_typings.proofs.ReachedRegion.{first_has}
use Rattle.go_typings.specs.PackageWorlds.{Outcome, typed, refused, blocked, over, with_outcome}
use Rattle.go_typings.specs.Sources.{PackageSource}
use Rattle.go_exposed.specs.OfferedWorlds.{Become, become_none, become_more, Becomes}
use Rattle.go_taken_packages.specs.InOrder.{source_path, typed_package}

pub mapped : {A B : Type 0} (f : A → B) (xs : List A) (x : A) → Has xs x → Has (map f xs) (f x)
mapped f [] x h = absurd h
mapped f (y ∷ xs) x (inl e) = inl (ap f e)
mapped f (y ∷ xs) x (inr h) = inr (mapped f xs x h)

module _ {A : Type 0} (key : A → List ℕ) where
  pub has_key : (xs : List A) (k : List ℕ) (x : A) → first_with key xs k ≡ Some x → Has (map key xs) k
  has_key xs k x e = subst (Has (map key xs)) (first_key key xs k x (sym e)) (mapped key xs x (first_has key xs k x e))

  -- a key that is there finds an item
  pub key_finds : (xs : List A) (k : List ℕ) → Has (map key xs) k → (x : A) × (first_with key xs k ≡ Some x)
  key_finds [] k h = absurd h
  key_finds (y ∷ ys) k h = choose (bytes_eq (key y) k) refl (key_finds ys k) h
    where
      choose : (b : Bool) → bytes_eq (key y) k ≡ b → (Has (map key ys) k → (x : A) × (first_with key ys k ≡ Some x)) → (key y ≡ k) ⊎ Has (map key ys) k → (x : A) × ((if b then Some y else first_with key ys k) ≡ Some x)
      choose true e r g = (y, refl)
      choose false e r (inl s) = absurd (let g : true ≡ false = sym ((bytes_eq-Decides (key y) k).1 s) ∙ e in cc)
      choose false e r (inr g) = r g

-- another path
pub apart : (a b : List ℕ) → (a ≡ b → ⊥) → bytes_eq a b ≡ false
apart a b n = elim (either (bytes_eq a b)) [ inl e ↦ absurd (n ((bytes_eq-Decides a b).0 e)) | inr e ↦ e ]

pub same_or_other : (a b : List ℕ) → (a ≡ b) ⊎ (a ≡ b → ⊥)
same_or_other a b = elim (either (bytes_eq a b)) [
  | inl e ↦ inl ((bytes_eq-Decides a b).0 e)
  | inr e ↦ inr (λ s. let g : true ≡ false = sym ((bytes_eq-Decides a b).1 s) ∙ e in absurd (cc))
]

module _ (bits : ℕ) where
  -- what stands at other paths stays
  pub other_kept : (w : Packages) (u : PackageSource) (x : Outcome) (path : List ℕ) → Becomes (over bits w) u x → (u.path ≡ path → ⊥) → first_with path_of (with_outcome w u x).packages path ≡ first_with path_of w.packages path
  other_kept w u (typed p) path a n = first_placed path_of p w.packages path (apart p.path path (λ e. n (sym a.1.«package».path ∙ e)))
  other_kept w u (refused r) path a n = refl
  other_kept w u blocked path a n = refl

  -- at a path that was free stands the package that is typed
  pub own_found : (w : Packages) (u : PackageSource) (x : Outcome) → Becomes (over bits w) u x → first_with path_of w.packages u.path ≡ None → first_with path_of (with_outcome w u x).packages u.path ≡ typed_package x
  own_found w u (typed p) a free =
      let same = a.1.«package».path in
      ap (first_with path_of (with_outcome w u (typed p)).packages) (sym same) ∙ own_placed path_of p w.packages (λ h. absent path_of w.packages p.path (ap (first_with path_of w.packages) same ∙ free) h)
  own_found w u (refused r) a free = free
  own_found w u blocked a free = free

  -- what stands at the paths of none of the packages stays
  pub rest_kept : {w v : Packages} {us : List PackageSource} {xs : List Outcome} (path : List ℕ) → Become bits w us xs v → (Has (map source_path us) path → ⊥) → first_with path_of v.packages path ≡ first_with path_of w.packages path
  rest_kept path become_none n = refl
  rest_kept path (become_more {w = w} {u = u} {x = x} a r) n = rest_kept path r (λ h. n (inr h)) ∙ other_kept w u x path a (λ e. n (inl e))

-- a package of a list with paths of their own is told by its path
pub once_at : (us : List PackageSource) → Once (map source_path us) → (u v : PackageSource) → Has us u → Has us v → u.path ≡ v.path → u ≡ v
once_at [] o u v h k e = absurd h
once_at (s ∷ us) o u v (inl a) (inl b) e = sym a ∙ b
once_at (s ∷ us) o u v (inl a) (inr k) e = absurd (o.0 (subst (Has (map source_path us)) (sym (ap source_path a ∙ e)) (mapped source_path us v k)))
once_at (s ∷ us) o u v (inr h) (inl b) e = absurd (o.0 (subst (Has (map source_path us)) (e ∙ sym (ap source_path b)) (mapped source_path us u h)))
once_at (s ∷ us) o u v (inr h) (inr k) e = once_at us o.1 u v h k e
