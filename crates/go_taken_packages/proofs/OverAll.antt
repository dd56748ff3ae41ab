-- What becomes of a package over those before it becomes of it over all of its list.
use Rattle.std.proofs.Common.{◌≡◌, ℕ, zero, suc, Bool, true, List, [], ◌∷◌, Some, map, refl, sym, ap, ◌∙◌, subst, inl, inr}
use Rattle.std.specs.Prelude.{slice_get}
use Rattle.go_base.specs.Keys.{first_with}
use Rattle.go_base.specs.Lists.{Has}
use Rattle.go_model.specs.worlds.Worlds.{Packages, path_of}
use Rattle.go_typings.proofs.Cells.{none_some, some_once}
use Rattle.go_typings.specs.PackageWorlds.{Outcome, no_packages, over, with_outcome}
use Rattle.go_typings.specs.Sources.{PackageSource}
use Rattle.go_exposed.specs.OfferedWorlds.{Become, become_none, become_more, Becomes}
use Rattle.go_exposed.specs.SkippedDeclarations.{Skipped}
use Rattle.go_exposed.specs.SkippedWorlds.{AreSkipped, IsSkippedAs, Skip, skip_none, skip_more}
use Rattle.go_exposed.proofs.OneWorld.{one_outcome}
use Rattle.go_taken_packages.proofs.KeptPaths.{other_kept, own_found, rest_kept}
use Rattle.go_taken_packages.proofs.SameReach.{AgreeAt, HasNoEmptyPath, becomes_there, skipped_as_there}
use Rattle.go_taken_packages.proofs.SoFar.{SoFar, held, held_has, imports_held, so_far_next, so_far_none}
use Rattle.go_taken_packages.specs.InOrder.{BecomeInOrder, HavePathsOfTheirOwn, source_path, typed_package}

abbrev all_paths : List ℕ → Bool
all_paths path = true

-- this becomes of a package over all, and stands at its path
abbrev pub StandsAs : ℕ → Packages → PackageSource → Outcome → Type 0
StandsAs bits w u x = Becomes (over bits w) u x × (first_with path_of w.packages u.path ≡ typed_package x)

-- no package of a list has the empty path
pub not_empty : (us : List PackageSource) → ((u : PackageSource) → Has us u → u.path ≡ [] → ⊥) → Has (map source_path us) [] → ⊥
not_empty [] n h = h
not_empty (u ∷ us) n (inl e) = n u (inl refl) e
not_empty (u ∷ us) n (inr h) = not_empty us (λ v k. n v (inr k)) h

module _ (bits : ℕ) where
  pub no_empty : (paths : List (List ℕ)) {w v : Packages} {us : List PackageSource} {xs : List Outcome} → Become bits w us xs v → SoFar all_paths paths w us → HasNoEmptyPath v
  no_empty paths {us = us} b s = rest_kept bits [] b (not_empty us s.own.named) ∙ s.empty

  module _ (paths : List (List ℕ)) (w v : Packages) (u : PackageSource) (us : List PackageSource) (x : Outcome) (xs : List Outcome) (a : Becomes (over bits w) u x) (r : Become bits (with_outcome w u x) us xs v) (s : SoFar all_paths paths w (u ∷ us)) where
    -- at the paths so far nothing changes
    agree_after : AgreeAt (held all_paths paths) w v
    agree_after path i = let n = s.new path (held_has all_paths paths path i) in
        sym (rest_kept bits path r (λ h. n (inr h)) ∙ other_kept bits w u x path a (λ e. n (inl e)))

    first_over : StandsAs bits v u x
    first_over = (
      becomes_there (held all_paths paths) u (imports_held all_paths paths w u us s (s.imports u (inl refl) refl)) bits w v s.closed s.empty (no_empty paths (become_more {x = x} a r) s) agree_after x a,
      rest_kept bits u.path r s.own.once.0 ∙ own_found bits w u x a (s.free u (inl refl)),
    )

    first_skipped : (k : List Skipped) → IsSkippedAs (over bits w) u x k → IsSkippedAs (over bits v) u x k
    first_skipped k h = skipped_as_there (held all_paths paths) u (imports_held all_paths paths w u us s (s.imports u (inl refl) refl)) bits w v s.closed s.empty (no_empty paths (become_more {x = x} a r) s) agree_after x k h

  stands_as : (paths : List (List ℕ)) {w v : Packages} {us : List PackageSource} {xs : List Outcome} → Become bits w us xs v → SoFar all_paths paths w us → (n : ℕ) (u : PackageSource) (x : Outcome) → slice_get us n ≡ Some u → slice_get xs n ≡ Some x → StandsAs bits v u x
  stands_as paths become_none s n u x e f = none_some (slice_get {X = PackageSource} [] n) u refl e
  stands_as paths (become_more {w = w} {v = v} {u = t} {us = us} {x = y} {xs = xs} a r) s zero u x e f =
      subst (λ (q : PackageSource × Outcome). StandsAs bits v q.0 q.1) (let g = some_once t u e in let h = some_once y x f in λ i. (g i, h i)) (first_over paths w v t us y xs a r s)
  stands_as paths (become_more {w = w} {v = v} {u = t} {us = us} {x = y} {xs = xs} a r) s (suc n) u x e f = stands_as (t.path ∷ paths) r (so_far_next all_paths bits paths w t us y s a) n u x e f

  skipped_over : (paths : List (List ℕ)) {w v : Packages} {us : List PackageSource} {xs : List Outcome} {xss : List (List Skipped)} → Become bits w us xs v → Skip bits w us xss → SoFar all_paths paths w us
      → (n : ℕ) (u : PackageSource) (x : Outcome) (k : List Skipped) → slice_get us n ≡ Some u → slice_get xs n ≡ Some x → slice_get xss n ≡ Some k → IsSkippedAs (over bits v) u x k
  skipped_over paths become_none skip_none s n u x k e f g = none_some (slice_get {X = PackageSource} [] n) u refl e
  skipped_over paths (become_more {w = w} {v = v} {u = t} {us = us} {x = y} {xs = xs} a r) (skip_more {xs = l} z b h q) s zero u x k e f g =
      let is = one_outcome (over bits w) t z y b a in
      let mine = first_skipped paths w v t us y xs a r s l (subst (λ (o : Outcome). IsSkippedAs (over bits w) t o l) is h) in
      let i = some_once t u e in
      let j = some_once y x f in
      let m = some_once l k g in
      subst (λ (c : PackageSource × Outcome × List Skipped). IsSkippedAs (over bits v) c.0 c.1 c.2) (λ d. (i d, j d, m d)) mine
  skipped_over paths (become_more {w = w} {v = v} {u = t} {us = us} {x = y} {xs = xs} a r) (skip_more {xss = yss} z b h q) s (suc n) u x k e f g =
      let is = one_outcome (over bits w) t z y b a in
      skipped_over (t.path ∷ paths) r (subst (λ (o : Outcome). Skip bits (with_outcome w t o) us yss) is q) (so_far_next all_paths bits paths w t us y s a) n u x k e f g

  module _ (us : List PackageSource) (xs : List Outcome) (w : Packages) (own : HavePathsOfTheirOwn us) (b : BecomeInOrder bits us xs w) where
    abbrev start : SoFar all_paths [] no_packages us
    start = so_far_none all_paths us own (λ u h t file i j e. refl) b.after

    pub nothing_at_empty : HasNoEmptyPath w
    nothing_at_empty = no_empty [] b.become start

    pub over_all : (n : ℕ) (u : PackageSource) (x : Outcome) → slice_get us n ≡ Some u → slice_get xs n ≡ Some x → StandsAs bits w u x
    over_all n u x e f = stands_as [] b.become start n u x e f

    pub skipped_over_all : (xss : List (List Skipped)) → AreSkipped bits us xss → (n : ℕ) (u : PackageSource) (x : Outcome) (k : List Skipped) → slice_get us n ≡ Some u → slice_get xs n ≡ Some x → slice_get xss n ≡ Some k → IsSkippedAs (over bits w) u x k
    skipped_over_all xss s n u x k e f g = skipped_over [] b.become s start n u x k e f g

-- ---- what becomes of one of the list

pub outcome_at : {bits : ℕ} {w v : Packages} {us : List PackageSource} {xs : List Outcome} → Become bits w us xs v → (n : ℕ) (u : PackageSource) → slice_get us n ≡ Some u → (x : Outcome) × (slice_get xs n ≡ Some x)
outcome_at become_none n u e = none_some (slice_get {X = PackageSource} [] n) u refl e
outcome_at (become_more {x = x} a r) zero u e = (x, refl)
outcome_at (become_more a r) (suc n) u e = outcome_at r n u e

pub place_of : (us : List PackageSource) (u : PackageSource) → Has us u → (n : ℕ) × (slice_get us n ≡ Some u)
place_of [] u h = absurd h
place_of (v ∷ us) u (inl e) = (0, ap Some e)
place_of (v ∷ us) u (inr h) = let q = place_of us u h in (suc q.0, q.1)

pub has_place : (us : List PackageSource) (n : ℕ) (u : PackageSource) → slice_get us n ≡ Some u → Has us u
has_place [] n u e = none_some (slice_get {X = PackageSource} [] n) u refl e
has_place (v ∷ us) zero u e = inl (some_once v u e)
has_place (v ∷ us) (suc n) u e = inr (has_place us n u e)
