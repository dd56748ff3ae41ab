-- The first import that is needed, import by import and file by file.
use Rattle.std.proofs.Common.{◌≡◌, ◌<◌, ◌≤◌, ◌+◌, ℕ, suc, Option, None, Some, List, [], ◌∷◌, ◌++◌, length, map, drop, get_or, sym, ap, ◌∙◌, subst, arith}
use Rattle.std.proofs.lemmas.List.{drop_more}
use Rattle.go_base.proofs.Lists.{drop_past}
use Rattle.go_exposed.specs.Refusals.{IsFirstMissing, IsNeeded, import_place, missing_here, missing_later}
use Rattle.go_import_uses.specs.inner.FirstNeeded.{Needs, NeedsIn}
use Rattle.go_sources.specs.UnitSources.{file_of, import_of}
use Rattle.go_syntax.specs.declared.name.Place.{Place}
use Rattle.go_typings.specs.Refusals.{import_at, imports_from}
use Rattle.go_typings.specs.Sources.{Import, PackageSource}
use Rattle.go_units.specs.declared.unit.UnitFile.{UnitFile}
use Rattle.go_units.specs.declared.unit.UsedImport.{UsedImport}

module _ (u : PackageSource) where
  none_missing : (p : Place) → IsFirstMissing u [] p → ⊥
  none_missing p m = elim m [ ]

  -- ---- the imports of a file

  later_none : (x : ℕ × Import) (is : List (ℕ × Import)) (p : Place) → (IsNeeded u x → ⊥) → ((q : Place) → IsFirstMissing u is q → ⊥) → IsFirstMissing u (x ∷ is) p → ⊥
  later_none x is p n none (missing_here k) = n k
  later_none x is p n none (missing_later e m) = none p m

  later : (x : ℕ × Import) (is : List (ℕ × Import)) (r : Option Place) → (IsNeeded u x → ⊥) → Needs u is r → Needs u (x ∷ is) r
  later x is None n m = λ p k. later_none x is p n m k
  later x is (Some p) n m = missing_later n m

  module _ (file : ℕ) (all : List UsedImport) (at : ℕ) (i : UsedImport) (within : at < length all) (is : i ≡ get_or all at i) where
    from_here : drop at all ≡ i ∷ drop (at + 1) all
    from_here = drop_more all at i within ∙ ap (λ (x : UsedImport). x ∷ drop (at + 1) all) (sym is)

    pub import_needed : IsNeeded u (file, import_of i) → NeedsIn u file (drop at all) (Some (import_place (file, import_of i)))
    import_needed n = subst (λ (w : List UsedImport). NeedsIn u file w (Some (import_place (file, import_of i)))) (sym from_here) (missing_here n)

    pub import_spared : (r : Option Place) → (IsNeeded u (file, import_of i) → ⊥) → NeedsIn u file (drop (at + 1) all) r → NeedsIn u file (drop at all) r
    import_spared r n m = subst (λ (w : List UsedImport). NeedsIn u file w r) (sym from_here) (later (file, import_of i) (map (import_at file) (map import_of (drop (at + 1) all))) r n m)

  pub imports_past : (file : ℕ) (all : List UsedImport) (at : ℕ) → length all ≤ at → NeedsIn u file (drop at all) None
  imports_past file all at h = subst (λ (w : List UsedImport). NeedsIn u file w None) (sym (drop_past at all h)) none_missing

  -- ---- files

  in_front : (is js : List (ℕ × Import)) (p : Place) → IsFirstMissing u is p → IsFirstMissing u (is ++ js) p
  in_front [] js p m = elim m [ ]
  in_front ((file, i) ∷ is) js p (missing_here n) = missing_here n
  in_front ((file, i) ∷ is) js p (missing_later n m) = missing_later n (in_front is js p m)

  behind_none : (is js : List (ℕ × Import)) (p : Place) → ((q : Place) → IsFirstMissing u is q → ⊥) → ((q : Place) → IsFirstMissing u js q → ⊥) → IsFirstMissing u (is ++ js) p → ⊥
  behind_none [] js p n k m = k p m
  behind_none ((file, i) ∷ is) js p n k (missing_here e) = n (import_place (file, i)) (missing_here e)
  behind_none ((file, i) ∷ is) js p n k (missing_later e m) = behind_none is js p (λ q l. n q (missing_later e l)) k m

  behind : (is js : List (ℕ × Import)) (p : Place) → ((q : Place) → IsFirstMissing u is q → ⊥) → IsFirstMissing u js p → IsFirstMissing u (is ++ js) p
  behind [] js p n m = m
  behind ((file, i) ∷ is) js p n m =
      let e : IsNeeded u (file, i) → ⊥ = λ f. n (import_place (file, i)) (missing_here f) in
      missing_later e (behind is js p (λ q l. n q (missing_later e l)) m)

  behind_either : (is js : List (ℕ × Import)) (r : Option Place) → Needs u is None → Needs u js r → Needs u (is ++ js) r
  behind_either is js None n m = λ p k. behind_none is js p n m k
  behind_either is js (Some p) n m = behind is js p n m

  abbrev pub NeedsFrom : ℕ → List UnitFile → Option Place → Type 0
  NeedsFrom file fs r = Needs u (imports_from file (map file_of fs)) r

  module _ (all : List UnitFile) (at : ℕ) (f : UnitFile) (within : at < length all) (is : f ≡ get_or all at f) where
    files_here : drop at all ≡ f ∷ drop (at + 1) all
    files_here = drop_more all at f within ∙ ap (λ (x : UnitFile). x ∷ drop (at + 1) all) (sym is)

    pub file_needed : (p : Place) → NeedsIn u at f.imports (Some p) → NeedsFrom at (drop at all) (Some p)
    file_needed p m = subst (λ (w : List UnitFile). NeedsFrom at w (Some p)) (sym files_here) (in_front (map (import_at at) (map import_of f.imports)) (imports_from (suc at) (map file_of (drop (at + 1) all))) p m)

    pub file_spared : (r : Option Place) → NeedsIn u at f.imports None → NeedsFrom (at + 1) (drop (at + 1) all) r → NeedsFrom at (drop at all) r
    file_spared r n m =
        subst (λ (w : List UnitFile). NeedsFrom at w r) (sym files_here)
        (behind_either (map (import_at at) (map import_of f.imports)) (imports_from (suc at) (map file_of (drop (at + 1) all))) r n
        (subst (λ (k : ℕ). NeedsFrom k (drop (at + 1) all) r) one m))
      where
        one : at + 1 ≡ suc at
        one = omega arith

  pub files_past : (all : List UnitFile) (at : ℕ) → length all ≤ at → NeedsFrom at (drop at all) None
  files_past all at h = subst (λ (w : List UnitFile). NeedsFrom at w None) (sym (drop_past at all h)) none_missing
