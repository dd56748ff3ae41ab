-- Where all packages of both lists are typed, those of taken paths are the same, and are typed so while the second world is being made.
use Rattle.std.proofs.Common.{◌≡◌, ℕ, zero, suc, Bool, true, List, [], ◌∷◌, Some, refl, sym, ap, ◌∙◌, subst}
use Rattle.std.specs.Prelude.{slice_get}
use Rattle.go_base.specs.Keys.{first_with}
use Rattle.go_base.specs.Lists.{Has, Passes}
use Rattle.go_model.specs.declared.types.package.Package.{Package}
use Rattle.go_model.specs.worlds.Worlds.{Packages, path_of}
use Rattle.go_rules.proofs.OneKind.{no_truth}
use Rattle.go_typings.proofs.Cells.{none_some, some_once}
use Rattle.go_typings.specs.PackageWorlds.{AreTyped, Outcome, typed, refused, blocked, is_typed, over}
use Rattle.go_typings.specs.Sources.{PackageSource}
use Rattle.go_exposed.specs.OfferedPackages.{IsOfferedAs}
use Rattle.go_exposed.specs.OfferedWorlds.{Becomes, IsWorldOf}
use Rattle.go_exposed.specs.SkippedDeclarations.{Skipped}
use Rattle.go_exposed.specs.SkippedWorlds.{AreSkipped, IsSkipped}
use Rattle.go_taken_packages.proofs.OverAll.{StandsAs, outcome_at, over_all, place_of, skipped_over_all}
use Rattle.go_taken_packages.proofs.TakenWorlds.{agree, becomes, skipped}
use Rattle.go_taken_packages.proofs.WorldsInOrder.{in_order}
use Rattle.go_taken_packages.specs.InOrder.{HavePathsOfTheirOwn}
use Rattle.go_taken_packages.specs.TakenPaths.{AreTaken, ImportsAreOf}

passes_at : (xs : List Outcome) → Passes is_typed xs → (n : ℕ) (x : Outcome) → slice_get xs n ≡ Some x → is_typed x ≡ true
passes_at [] o n x e = none_some (slice_get {X = Outcome} [] n) x refl e
passes_at (y ∷ xs) o zero x e = ap is_typed (sym (some_once y x e)) ∙ o.0
passes_at (y ∷ xs) o (suc n) x e = passes_at xs o.1 n x e

as_typed : (x : Outcome) → is_typed x ≡ true → (p : Package) × (x ≡ typed p)
as_typed (typed p) e = (p, refl)
as_typed (refused r) e = absurd (no_truth (sym e))
as_typed blocked e = absurd (no_truth (sym e))

module _ (bits : ℕ) (us : List PackageSource) (w : Packages) (own : HavePathsOfTheirOwn us) (k : IsWorldOf bits us w) where
  -- a package of the list is typed over all
  pub typed_at : (n : ℕ) (u : PackageSource) → slice_get us n ≡ Some u → (p : Package) × (slice_get (in_order bits us w k).0 n ≡ Some (typed p)) × StandsAs bits w u (typed p)
  typed_at n u e =
      let o = in_order bits us w k in
      let x = outcome_at (o.1).become n u e in
      let p = as_typed x.0 (passes_at o.0 o.2 n x.0 x.1) in
      let at = x.1 ∙ ap Some p.1 in
      (p.0, at, over_all bits us o.0 w own o.1 n u (typed p.0) e at)

  pub typed_in : (u : PackageSource) → Has us u → (p : Package) × StandsAs bits w u (typed p)
  typed_in u h = let n = place_of us u h in let q = typed_at n.0 u n.1 in (q.0, q.2)

module _ (bits : ℕ) (us vs : List PackageSource) (w v : Packages) (taken : List ℕ → Bool) (own : HavePathsOfTheirOwn us) (other : HavePathsOfTheirOwn vs) (t : AreTaken us vs taken) (k : IsWorldOf bits us w) (l : IsWorldOf bits vs v) where
  pub packages : (path : List ℕ) → taken path ≡ true → (p : Package) × (first_with path_of w.packages path ≡ Some p) × (first_with path_of v.packages path ≡ Some p)
  packages path i =
      let a = in_order bits us w k in
      let b = in_order bits vs v l in
      let q = t.same path i in
      let p = typed_in bits us w own k q.source q.here in
      let is = ap (first_with path_of w.packages) (sym q.place) ∙ p.1.1 in
      (p.0, is, sym (agree bits us vs a.0 b.0 w v taken own other a.1 b.1 t path i) ∙ is)

  pub offered : (u : PackageSource) (p : Package) → Has us u → ImportsAreOf taken u → first_with path_of w.packages u.path ≡ Some p → AreTyped v u × IsOfferedAs (over bits v) u p
  offered u p h imports e =
      let a = in_order bits us w k in
      let b = in_order bits vs v l in
      let q = typed_in bits us w own k u h in
      let is : q.0 ≡ p = some_once q.0 p (sym q.1.1 ∙ e) in
      becomes bits us vs a.0 b.0 w v taken own other a.1 b.1 t u imports (typed p) (subst (λ (z : Package). Becomes (over bits w) u (typed z)) is q.1.0)

  pub left_out : (xss : List (List Skipped)) → AreSkipped bits us xss → (n : ℕ) (u : PackageSource) (s : List Skipped) → slice_get us n ≡ Some u → slice_get xss n ≡ Some s → ImportsAreOf taken u → IsSkipped (over bits v) u s
  left_out xss skips n u s e f imports =
      let a = in_order bits us w k in
      let b = in_order bits vs v l in
      let q = typed_at bits us w own k n u e in
      skipped bits us vs a.0 b.0 w v taken own other a.1 b.1 t u imports s (skipped_over_all bits us a.0 w own a.1 xss skips n u (typed q.0) s e q.1 f)
