-- The lines of packages of which something is left out are those of all packages.
use Rattle.std.proofs.Common.{◌≡◌, ◌==◌, ◌<◌, ◌≤◌, ◌+◌, ℕ, Bool, true, false, List, [], ◌∷◌, ◌++◌, map, length, get_or, take, drop, refl, sym, ap, ◌∙◌, subst, append_assoc, append-nil, arith}
use Rattle.std.proofs.lemmas.List.{drop_more, take_more}
use Rattle.std.specs.Cmp.Lexicographic.{slice_cmp}
use Rattle.std.specs.Ordering.{is_lt, nat_cmp}
use Rattle.std.specs.Prelude.{if◌then◌else◌, insert}
use Rattle.api_refusals.specs.SkippedTexts.{skipped_texts}
use Rattle.api_worlds.specs.LeftOut.{all_lines, lines_with, path_of, with_lines}
use Rattle.api_worlds.specs.declared.left_out.PackageLines.{PackageLines}
use Rattle.api_worlds.specs.PlatformWorlds.{sources_of}
use Rattle.api_worlds.specs.inner.KeptLines.{kept_lines, lines_from}
use Rattle.api_worlds.specs.inner.PlatformSteps.{AreLinesOf}
use Rattle.go_base.proofs.Lists.{drop_past, take_past}
use Rattle.go_base.specs.Keys.{placed}
use Rattle.go_exposed.specs.SkippedValues.{all_skipped}
use Rattle.go_exposed.specs.SkippedWorlds.{AreSkipped}
use Rattle.go_exposed.specs.declared.skipped.Skipped.{Skipped}
use Rattle.go_model.specs.declared.files.platform.Platform.{Platform}
use Rattle.go_model.specs.declared.files.tree.Tree.{Tree}
use Rattle.go_model.specs.files.Platforms.{bits_of}
use Rattle.go_units.specs.declared.unit.«Unit».{«Unit» as PackageUnit}
use Rattle.go_units.specs.declared.unit_list.Units.{Units}
use Rattle.go_work.specs.KeptUnits.{AreKept, kept_unit, kept_units}
use Rattle.go_work.specs.declared.checked.SkippedUnit.{SkippedUnit}

-- ---- the place of a package

module _ (packages : List PackageLines) (path : List ℕ) where
  -- a package of the path belongs behind the first ones
  abbrev pub GoesBehind : ℕ → Type 0
  GoesBehind i = (p : PackageLines) → p.path ≡ path → placed path_of p packages ≡ take i packages ++ placed path_of p (drop i packages)

  first_by : (p x : PackageLines) (xs : List PackageLines) (b : Bool) → p.path ≡ path → is_lt (slice_cmp nat_cmp path x.path) ≡ b → placed path_of p (x ∷ xs) ≡ (if b then p ∷ x ∷ xs else x ∷ placed path_of p xs)
  first_by p x xs b e h = ap (λ (c : Bool). if c then p ∷ x ∷ xs else x ∷ placed path_of p xs) (ap (λ (k : List ℕ). is_lt (slice_cmp nat_cmp k x.path)) e ∙ h)

  pub behind_none : GoesBehind 0
  behind_none = λ p e. refl

  pub behind_more : (i : ℕ) (x : PackageLines) → i < length packages → x ≡ get_or packages i x → is_lt (slice_cmp nat_cmp path x.path) ≡ false → GoesBehind i → GoesBehind (i + 1)
  behind_more i x within is later h = λ p e.
      let here : drop i packages ≡ x ∷ drop (i + 1) packages = drop_more packages i x within ∙ ap (λ y. y ∷ drop (i + 1) packages) (sym is) in
      let front : take (i + 1) packages ≡ take i packages ++ x ∷ [] = take_more packages i x within ∙ ap (λ y. take i packages ++ y ∷ []) (sym is) in
      h p e ∙ ap (λ (w : List PackageLines). take i packages ++ placed path_of p w) here ∙ ap (λ (w : List PackageLines). take i packages ++ w) (first_by p x (drop (i + 1) packages) false e later)
      ∙ sym (append_assoc (take i packages) (x ∷ []) (placed path_of p (drop (i + 1) packages))) ∙ ap (λ (w : List PackageLines). w ++ placed path_of p (drop (i + 1) packages)) (sym front)

  pub placed_here : (i : ℕ) (x : PackageLines) → i < length packages → x ≡ get_or packages i x → is_lt (slice_cmp nat_cmp path x.path) ≡ true → GoesBehind i
      → (p : PackageLines) → p.path ≡ path → placed path_of p packages ≡ insert packages i p
  placed_here i x within is sooner h p e =
      let here : drop i packages ≡ x ∷ drop (i + 1) packages = drop_more packages i x within ∙ ap (λ y. y ∷ drop (i + 1) packages) (sym is) in
      h p e ∙ ap (λ (w : List PackageLines). take i packages ++ placed path_of p w) here ∙ ap (λ (w : List PackageLines). take i packages ++ w) (first_by p x (drop (i + 1) packages) true e sooner)
      ∙ ap (λ (w : List PackageLines). take i packages ++ p ∷ w) (sym here)

  pub placed_last : (i : ℕ) → length packages ≤ i → GoesBehind i → (p : PackageLines) → p.path ≡ path → placed path_of p packages ≡ insert packages (length packages) p
  placed_last i past h p e =
      h p e ∙ ap (λ (w : List PackageLines). take i packages ++ placed path_of p w) (drop_past i packages past) ∙ ap (λ (w : List PackageLines). w ++ p ∷ []) (take_past i packages past ∙ sym (take_past (length packages) packages (omega_refl (length packages))))
      ∙ ap (λ (w : List PackageLines). take (length packages) packages ++ p ∷ w) (sym (drop_past (length packages) packages (omega_refl (length packages))))
    where
      omega_refl : (n : ℕ) → n ≤ n
      omega_refl n = omega arith

-- ---- the lines of all

-- with lines, a package has its place
pub some_lines : (path : List ℕ) (lines : List (List ℕ)) (ps : List PackageLines) → (length lines == 0) ≡ false → placed path_of (record { path = path; lines = lines }) ps ≡ with_lines path lines ps
some_lines path [] ps e = absurd (cc)
some_lines path (l ∷ ls) ps e = refl

pub lines_more : (ps : List PackageLines) (p : PackageLines) → all_lines (ps ++ p ∷ []) ≡ all_lines ps ++ p.lines
lines_more [] p = append-nil p.lines
lines_more (q ∷ ps) p = ap (λ (w : List (List ℕ)). q.lines ++ w) (lines_more ps p) ∙ sym (append_assoc q.lines (all_lines ps) p.lines)

module _ (tree std_tree : Tree) where
  pub kept_next : {all : List PackageLines} (kept : List SkippedUnit) (i : ℕ) (k : SkippedUnit) (old new : List PackageLines) → i < length kept → k ≡ get_or kept i k → new ≡ lines_from tree std_tree old k
      → kept_lines tree std_tree old (drop i kept) ≡ all → kept_lines tree std_tree new (drop (i + 1) kept) ≡ all
  kept_next kept i k old new within is e r =
      let here : drop i kept ≡ k ∷ drop (i + 1) kept = drop_more kept i k within ∙ ap (λ y. y ∷ drop (i + 1) kept) (sym is) in
      ap (λ (w : List PackageLines). kept_lines tree std_tree w (drop (i + 1) kept)) e ∙ ap (kept_lines tree std_tree old) (sym here) ∙ r

  pub kept_done : {all : List PackageLines} (kept : List SkippedUnit) (i : ℕ) (old : List PackageLines) → length kept ≤ i → kept_lines tree std_tree old (drop i kept) ≡ all → old ≡ all
  kept_done kept i old past r = ap (kept_lines tree std_tree old) (sym (drop_past i kept past)) ∙ r

  kept_by : (u : PackageUnit) (xs : List Skipped) (ks : List SkippedUnit) (ps : List PackageLines) → kept_lines tree std_tree ps (kept_unit u xs ++ ks) ≡ kept_lines tree std_tree (with_lines u.path (skipped_texts tree std_tree u (all_skipped xs)) ps) ks
  kept_by u [] ks ps = refl
  kept_by u (x ∷ xs) ks ps = refl

  pub kept_all : (us : List PackageUnit) (xss : List (List Skipped)) (ps : List PackageLines) → kept_lines tree std_tree ps (kept_units us xss) ≡ lines_with tree std_tree ps us (map all_skipped xss)
  kept_all [] xss ps = refl
  kept_all (u ∷ us) [] ps = refl
  kept_all (u ∷ us) (xs ∷ xss) ps = kept_by u xs (kept_units us xss) ps ∙ kept_all us xss (with_lines u.path (skipped_texts tree std_tree u (all_skipped xs)) ps)

  -- the lines of the kept units are those of the platform
  pub lines_kept : (p : Platform) (units : Units) (bits : ℕ) (kept : List SkippedUnit) (lines : List (List ℕ)) → bits ≡ bits_of p → AreKept bits units.packages kept → lines ≡ all_lines (kept_lines tree std_tree [] kept) → AreLinesOf tree std_tree p units lines
  lines_kept p units bits kept lines b k e = record {
    skipped = map all_skipped k.skipped;
    skips = subst (λ (n : ℕ). AreSkipped n (sources_of units) (map all_skipped k.skipped)) b k.skips;
    «is» = e ∙ ap (λ (ks : List SkippedUnit). all_lines (kept_lines tree std_tree [] ks)) k.«is» ∙ ap all_lines (kept_all units.packages k.skipped []);
  }
