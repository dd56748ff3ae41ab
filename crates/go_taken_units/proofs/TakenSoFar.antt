-- The paths that were taken over are taken between the earlier packages and those so far.
use Rattle.std.proofs.Common.{◌≡◌, ℕ, zero, suc, Bool, true, false, List, [], ◌∷◌, ◌++◌, Some, map, refl, sym, ap, ◌∙◌, subst, inl, inr}
use Rattle.std.specs.Prelude.{slice_get}
use Rattle.go_base.specs.Growing.{Grows}
use Rattle.go_base.specs.Lists.{Has}
use Rattle.go_imports.proofs.GrowingSets.{order, texts_tie, grows_inserted}
use Rattle.go_imports.proofs.Members.{has_left, has_last}
use Rattle.go_sources.specs.UnitSources.{source_of}
use Rattle.go_taken_packages.proofs.KeptPaths.{mapped, once_at}
use Rattle.go_taken_packages.proofs.SoFar.{among, among_has}
use Rattle.go_taken_packages.specs.InOrder.{HavePathsOfTheirOwn, source_path}
use Rattle.go_taken_packages.specs.TakenPaths.{AreTaken, ImportsAreOf, StandsInBoth}
use Rattle.go_taken_packages.specs.ToldPackages.{is_among}
use Rattle.go_typings.proofs.Cells.{none_some, some_once}
use Rattle.go_typings.specs.Sources.{PackageSource}
use Rattle.go_units.specs.declared.unit.«Unit».{«Unit» as PackageUnit}
use Rattle.go_taken_units.specs.TakenUnits.{TakesOver, with_path}

at_place : {A : Type 0} (xs : List A) (n : ℕ) (x : A) → slice_get xs n ≡ Some x → Has xs x
at_place [] n x e = none_some (slice_get [] n) x refl e
at_place (y ∷ xs) zero x e = inl (some_once y x e)
at_place (y ∷ xs) (suc n) x e = inr (at_place xs n x e)

none_among : {X : Type 0} (path : List ℕ) → is_among [] path ≡ true → X
none_among path e = absurd (let g : false ≡ true = e in cc)

pub nothing_taken : (us : List PackageSource) → AreTaken us [] (is_among [])
nothing_taken us = record { same = λ path e. none_among path e; imports = λ u h e. none_among u.path e }

stands_too : (us vs : List PackageSource) (v : PackageSource) (path : List ℕ) → StandsInBoth us vs path → StandsInBoth us (vs ++ v ∷ []) path
stands_too us vs v path s = record { source = s.source; here = s.here; there = has_left vs (v ∷ []) s.source s.there; place = s.place }

pub one_more : (us vs : List PackageSource) (taken : List ℕ → Bool) (v : PackageSource) → AreTaken us vs taken → AreTaken us (vs ++ v ∷ []) taken
one_more us vs taken v t = record { same = λ path e. stands_too us vs v path (t.same path e); imports = t.imports }

module _ (earlier : List PackageUnit) (before : List PackageSource) (paths : List (List ℕ)) (u : PackageUnit) (m : ℕ) (own : HavePathsOfTheirOwn (map source_of earlier)) (t : AreTaken (map source_of earlier) before (is_among paths)) (over : TakesOver earlier paths u m) where
  abbrev us : List PackageSource
  us = map source_of earlier

  grown : Grows (λ x. u.path ≡ x) paths (with_path paths u.path)
  grown = grows_inserted order texts_tie paths (with_path paths u.path) u.path refl

  other_here : Has us (source_of over.other)
  other_here = mapped source_of earlier over.other (at_place earlier m over.other over.stands)

  stands_last : (path : List ℕ) → u.path ≡ path → StandsInBoth us (before ++ source_of u ∷ []) path
  stands_last path e = record {
    source = source_of over.other;
    here = other_here;
    there = subst (Has (before ++ source_of u ∷ [])) (sym over.same) (has_last before (source_of u));
    place = ap source_path over.same ∙ e;
  }

  among_more : (path : List ℕ) → is_among paths path ≡ true → is_among (with_path paths u.path) path ≡ true
  among_more path e = among (with_path paths u.path) path (grown.kept path (among_has paths path e))

  of_more : (v : PackageSource) → ImportsAreOf (is_among paths) v → ImportsAreOf (is_among (with_path paths u.path)) v
  of_more v k = λ file i h found. among_more i.path (k file i h found)

  own_imports : (v : PackageSource) → Has us v → u.path ≡ v.path → ImportsAreOf (is_among paths) v
  own_imports v h e =
      let is = once_at us own.once (source_of over.other) v other_here h (ap source_path over.same ∙ e) in
      subst (ImportsAreOf (is_among paths)) (sym over.same ∙ is) over.imports

  pub takes_over : AreTaken us (before ++ source_of u ∷ []) (is_among (with_path paths u.path))
  takes_over = record {
    same = λ path e. elim (grown.sound path (among_has (with_path paths u.path) path e)) [
      | inl h ↦ stands_too us before (source_of u) path (t.same path (among paths path h))
      | inr s ↦ stands_last path s
    ];
    imports = λ v h e. elim (grown.sound v.path (among_has (with_path paths u.path) v.path e)) [
      | inl k ↦ of_more v (t.imports v h (among paths v.path k))
      | inr s ↦ of_more v (own_imports v h s)
    ];
  }
