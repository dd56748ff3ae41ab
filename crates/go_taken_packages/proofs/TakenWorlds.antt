-- In the worlds of two lists what stands at taken paths is the same.
use Rattle.std.proofs.Common.{◌≡◌, ℕ, Bool, true, List, [], ◌∷◌, Some, refl, sym, ap, ◌∙◌, subst, inl, inr}
use Rattle.std.specs.Prelude.{slice_get}
use Rattle.go_base.specs.Keys.{first_with}
use Rattle.go_base.specs.Lists.{Has}
use Rattle.go_model.specs.worlds.Worlds.{Packages, path_of}
use Rattle.go_typings.specs.PackageWorlds.{Outcome, no_packages, over, with_outcome}
use Rattle.go_typings.specs.ReachedPackages.{ReachesSame}
use Rattle.go_typings.specs.Sources.{PackageSource}
use Rattle.go_exposed.specs.OfferedWorlds.{Become, become_none, become_more, Becomes}
use Rattle.go_exposed.specs.SkippedDeclarations.{Skipped}
use Rattle.go_exposed.specs.SkippedWorlds.{IsSkipped}
use Rattle.go_exposed.proofs.OneWorld.{one_outcome}
use Rattle.go_taken_packages.proofs.KeptPaths.{once_at, other_kept, own_found, same_or_other}
use Rattle.go_taken_packages.proofs.OverAll.{StandsAs, has_place, nothing_at_empty, outcome_at, over_all, place_of}
use Rattle.go_taken_packages.proofs.SameReach.{AgreeAt, HasNoEmptyPath, becomes_there, same_at, skipped_there}
use Rattle.go_taken_packages.proofs.SoFar.{SoFar, held, held_has, held_taken, imports_held, is_held, listed_has, so_far_all, so_far_next, so_far_none, with_paths}
use Rattle.go_taken_packages.specs.InOrder.{BecomeInOrder, HavePathsOfTheirOwn, typed_package}
use Rattle.go_taken_packages.specs.TakenPaths.{AreTaken, ImportsAreOf}

module _ (bits : ℕ) (taken : List ℕ → Bool) (v : Packages) (none : HasNoEmptyPath v) where
  -- something becomes of the package over those of the other world, and stands there
  abbrev StandsThere : PackageSource → Type 0
  StandsThere u = (y : Outcome) × StandsAs bits v u y

  module _ (paths : List (List ℕ)) (w : Packages) (u : PackageSource) (us : List PackageSource) (x : Outcome) (a : Becomes (over bits w) u x) (s : SoFar taken paths w (u ∷ us)) (there : taken u.path ≡ true → StandsThere u) (agree : AgreeAt (held taken paths) w v) where
    same_outcome : (t : taken u.path ≡ true) → x ≡ (there t).0
    same_outcome t = one_outcome (over bits v) u x (there t).0 (becomes_there (held taken paths) u (imports_held taken paths w u us s (s.imports u (inl refl) t)) bits w v s.closed s.empty none agree x a) (there t).1.0

    agree_next : AgreeAt (held taken (u.path ∷ paths)) (with_outcome w u x) v
    agree_next path i = elim (same_or_other u.path path) [
      | inl e ↦ (
          let t : taken u.path ≡ true = ap taken e ∙ held_taken taken (u.path ∷ paths) path i in
          ap (first_with path_of (with_outcome w u x).packages) (sym e) ∙ own_found bits w u x a (s.free u (inl refl)) ∙ ap typed_package (same_outcome t) ∙ sym (there t).1.1 ∙ ap (first_with path_of v.packages) e
          )
      | inr n ↦ elim (held_has taken (u.path ∷ paths) path i) [
        | inl e ↦ absurd (n e)
        | inr h ↦ other_kept bits w u x path a n ∙ agree path (is_held taken paths path (held_taken taken (u.path ∷ paths) path i) h)
      ]
    ]

  agree_all : (paths : List (List ℕ)) {w z : Packages} {us : List PackageSource} {xs : List Outcome} → Become bits w us xs z → SoFar taken paths w us → ((u : PackageSource) → Has us u → taken u.path ≡ true → StandsThere u) → AgreeAt (held taken paths) w v → AgreeAt (held taken (with_paths taken paths us)) z v
  agree_all paths become_none s there agree = agree
  agree_all paths (become_more {w = w} {u = u} {us = us} {x = x} a r) s there agree =
      agree_all (u.path ∷ paths) r (so_far_next taken bits paths w u us x s a) (λ t h. there t (inr h)) (agree_next paths w u us x a s (there u (inl refl)) agree)

module _ (bits : ℕ) (us vs : List PackageSource) (xs ys : List Outcome) (w v : Packages) (taken : List ℕ → Bool) (own : HavePathsOfTheirOwn us) (other : HavePathsOfTheirOwn vs) (a : BecomeInOrder bits us xs w) (b : BecomeInOrder bits vs ys v) (t : AreTaken us vs taken) where
  -- a package of a taken path stands in the second list, too
  pub in_second : (u : PackageSource) → Has us u → taken u.path ≡ true → Has vs u
  in_second u h i = let q = t.same u.path i in subst (Has vs) (once_at us own.once q.source u q.here h q.place) q.there

  there : (u : PackageSource) → Has us u → taken u.path ≡ true → (y : Outcome) × StandsAs bits v u y
  there u h i =
      let n = place_of vs u (in_second u h i) in
      let y = outcome_at b.become n.0 u n.1 in
      (y.0, over_all bits vs ys v other b n.0 u y.0 n.1 y.1)

  abbrev start : SoFar taken [] no_packages us
  start = so_far_none taken us own t.imports a.after

  abbrev last : SoFar taken (with_paths taken [] us) w []
  last = so_far_all taken bits [] a.become start

  abbrev all_held : List ℕ → Bool
  all_held = held taken (with_paths taken [] us)

  listed : (path : List ℕ) → taken path ≡ true → all_held path ≡ true
  listed path i = let q = t.same path i in is_held taken (with_paths taken [] us) path i (subst (Has (with_paths taken [] us)) q.place (listed_has taken us [] q.source q.here))

  agree_held : AgreeAt all_held w v
  agree_held = agree_all bits taken v (nothing_at_empty bits vs ys v other b) [] a.become start there (λ path i. absurd (held_has taken [] path i))

  -- the same stands at taken paths in both
  pub agree : AgreeAt taken w v
  agree path i = agree_held path (listed path i)

  module _ (u : PackageSource) (imports : ImportsAreOf taken u) where
    all_of_them : ImportsAreOf all_held u
    all_of_them file i h e = listed i.path (imports file i h e)

    pub reaches : ReachesSame u (over bits w) (over bits v)
    reaches = same_at all_held u all_of_them bits w v last.closed last.empty (nothing_at_empty bits vs ys v other b) agree_held

    pub becomes : (x : Outcome) → Becomes (over bits w) u x → Becomes (over bits v) u x
    becomes x k = becomes_there all_held u all_of_them bits w v last.closed last.empty (nothing_at_empty bits vs ys v other b) agree_held x k

    pub skipped : (k : List Skipped) → IsSkipped (over bits w) u k → IsSkipped (over bits v) u k
    skipped k h = skipped_there all_held u all_of_them bits w v last.closed last.empty (nothing_at_empty bits vs ys v other b) agree_held k h

  -- the same becomes of a package of a taken path
  pub outcomes : (m n : ℕ) (u : PackageSource) (x y : Outcome) → slice_get us m ≡ Some u → slice_get vs n ≡ Some u → slice_get xs m ≡ Some x → slice_get ys n ≡ Some y → taken u.path ≡ true → x ≡ y
  outcomes m n u x y e f g h i =
      one_outcome (over bits v) u x y (becomes u (t.imports u (has_place us m u e) i) x (over_all bits us xs w own a m u x e g).0) (over_all bits vs ys v other b n u y f h).0
