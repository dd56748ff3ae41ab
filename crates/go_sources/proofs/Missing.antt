-- The first import that isn't found, import by import and file by file.
use Rattle.std.proofs.Common.{◌≡◌, ◌<◌, ◌≤◌, ◌+◌, ℕ, suc, Bool, true, false, Option, None, Some, List, [], ◌∷◌, ◌++◌, length, map, drop, get_or, refl, sym, ap, ◌∙◌, subst, arith}
use mathlib.Core.Bool.{true≢false}
use Rattle.std.proofs.lemmas.List.{drop_more}
use Rattle.go_base.proofs.Lists.{drop_past}
use Rattle.go_syntax.specs.declared.name.Place.{Place}
use Rattle.go_typings.specs.Refusals.{import_at, imports_from, IsFirstMissing, missing_here, missing_later}
use Rattle.go_typings.specs.Sources.{Import}
use Rattle.go_units.specs.declared.unit.UnitFile.{UnitFile}
use Rattle.go_units.specs.declared.unit.UsedImport.{UsedImport}
use Rattle.go_sources.specs.UnitSources.{file_of, import_of}
use Rattle.go_sources.specs.inner.MissingImports.{Misses, MissesIn}

Is : ℕ → List UsedImport → List (ℕ × Import)
Is file is = map (import_at file) (map import_of is)

abbrev place_at : ℕ → ℕ → Place
place_at file offset = record { file = file; offset = offset }

none_missing : (p : Place) → IsFirstMissing [] p → ⊥
none_missing p m = elim m [ ]

-- ---- the imports of a file

here : (file : ℕ) (i : UsedImport) (is : List UsedImport) → i.found ≡ false → MissesIn file (i ∷ is) (Some (place_at file i.place))
here file i is e = missing_here e

later_none : (file : ℕ) (i : UsedImport) (is : List (ℕ × Import)) (p : Place) → i.found ≡ true → ((q : Place) → IsFirstMissing is q → ⊥) → IsFirstMissing ((file, import_of i) ∷ is) p → ⊥
later_none file i is p e none (missing_here f) = absurd (true≢false (sym e ∙ f))
later_none file i is p e none (missing_later f m) = none p m

later : (file : ℕ) (i : UsedImport) (is : List (ℕ × Import)) (r : Option Place) → i.found ≡ true → Misses is r → Misses ((file, import_of i) ∷ is) r
later file i is None e m = λ p k. later_none file i is p e m k
later file i is (Some p) e m = missing_later e m

module _ (file : ℕ) (all : List UsedImport) (at : ℕ) (i : UsedImport) (within : at < length all) (is : i ≡ get_or all at i) where
  from_here : drop at all ≡ i ∷ drop (at + 1) all
  from_here = drop_more all at i within ∙ ap (λ (x : UsedImport). x ∷ drop (at + 1) all) (sym is)

  pub import_missing : i.found ≡ false → MissesIn file (drop at all) (Some (place_at file i.place))
  import_missing e = subst (λ (w : List UsedImport). MissesIn file w (Some (place_at file i.place))) (sym from_here) (here file i (drop (at + 1) all) e)

  pub import_found : (r : Option Place) → i.found ≡ true → MissesIn file (drop (at + 1) all) r → MissesIn file (drop at all) r
  import_found r e m = subst (λ (w : List UsedImport). MissesIn file w r) (sym from_here) (later file i (map (import_at file) (map import_of (drop (at + 1) all))) r e m)

pub imports_past : (file : ℕ) (all : List UsedImport) (at : ℕ) → length all ≤ at → MissesIn file (drop at all) None
imports_past file all at h = subst (λ (w : List UsedImport). MissesIn file w None) (sym (drop_past at all h)) none_missing

-- ---- files

in_front : (is js : List (ℕ × Import)) (p : Place) → IsFirstMissing is p → IsFirstMissing (is ++ js) p
in_front [] js p m = elim m [ ]
in_front ((file, i) ∷ is) js p (missing_here e) = missing_here e
in_front ((file, i) ∷ is) js p (missing_later e m) = missing_later e (in_front is js p m)

behind_none : (is js : List (ℕ × Import)) (p : Place) → ((q : Place) → IsFirstMissing is q → ⊥) → ((q : Place) → IsFirstMissing js q → ⊥) → IsFirstMissing (is ++ js) p → ⊥
behind_none [] js p n k m = k p m
behind_none ((file, i) ∷ is) js p n k (missing_here e) = n (place_at file i.place) (missing_here e)
behind_none ((file, i) ∷ is) js p n k (missing_later e m) = behind_none is js p (λ q l. n q (missing_later e l)) k m

found_by : (b : Bool) → (b ≡ false → ⊥) → b ≡ true
found_by true h = refl
found_by false h = absurd (h refl)

behind : (is js : List (ℕ × Import)) (p : Place) → ((q : Place) → IsFirstMissing is q → ⊥) → IsFirstMissing js p → IsFirstMissing (is ++ js) p
behind [] js p n m = m
behind ((file, i) ∷ is) js p n m =
    let e = found_by i.is_found (λ f. n (place_at file i.place) (missing_here f)) in
    missing_later e (behind is js p (λ q l. n q (missing_later e l)) m)

behind_either : (is js : List (ℕ × Import)) (r : Option Place) → Misses is None → Misses js r → Misses (is ++ js) r
behind_either is js None n m = λ p k. behind_none is js p n m k
behind_either is js (Some p) n m = behind is js p n m

abbrev pub MissesFrom : ℕ → List UnitFile → Option Place → Type 0
MissesFrom file fs r = Misses (imports_from file (map file_of fs)) r

module _ (all : List UnitFile) (at : ℕ) (f : UnitFile) (within : at < length all) (is : f ≡ get_or all at f) where
  files_here : drop at all ≡ f ∷ drop (at + 1) all
  files_here = drop_more all at f within ∙ ap (λ (x : UnitFile). x ∷ drop (at + 1) all) (sym is)

  pub file_missing : (p : Place) → MissesIn at f.imports (Some p) → MissesFrom at (drop at all) (Some p)
  file_missing p m = subst (λ (w : List UnitFile). MissesFrom at w (Some p)) (sym files_here) (in_front (map (import_at at) (map import_of f.imports)) (imports_from (suc at) (map file_of (drop (at + 1) all))) p m)

  pub file_found : (r : Option Place) → MissesIn at f.imports None → MissesFrom (at + 1) (drop (at + 1) all) r → MissesFrom at (drop at all) r
  file_found r n m =
      subst (λ (w : List UnitFile). MissesFrom at w r) (sym files_here)
      (behind_either (map (import_at at) (map import_of f.imports)) (imports_from (suc at) (map file_of (drop (at + 1) all))) r n
      (subst (λ (k : ℕ). MissesFrom k (drop (at + 1) all) r) one m))
    where
      one : at + 1 ≡ suc at
      one = omega arith

pub files_past : (all : List UnitFile) (at : ℕ) → length all ≤ at → MissesFrom at (drop at all) None
files_past all at h = subst (λ (w : List UnitFile). MissesFrom at w None) (sym (drop_past at all h)) none_missing
