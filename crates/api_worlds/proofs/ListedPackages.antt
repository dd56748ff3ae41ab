-- The lines of packages, each of which stands beside what is left out of it.
use Rattle.std.proofs.Common.{◌≡◌, ◌<◌, ◌≤◌, ◌+◌, ℕ, List, [], ◌∷◌, map, length, get_or, drop, refl, sym, ap, ◌∙◌, subst, inl, inr, arith}
use Rattle.std.proofs.lemmas.List.{drop_more}
use Rattle.std.specs.Prelude.{min}
use Rattle.api_refusals.specs.SkippedTexts.{skipped_texts}
use Rattle.api_worlds.specs.LeftOut.{all_lines, lines_with, with_lines}
use Rattle.api_worlds.specs.declared.left_out.PackageLines.{PackageLines}
use Rattle.api_worlds.specs.PlatformWorlds.{sources_of}
use Rattle.api_worlds.specs.inner.PlatformSteps.{AreLinesOf}
use Rattle.go_base.proofs.Lists.{drop_past}
use Rattle.go_exposed.specs.OfferedWorlds.{IsWorldOf}
use Rattle.go_exposed.specs.SkippedValues.{all_skipped}
use Rattle.go_exposed.specs.SkippedWorlds.{AreSkipped}
use Rattle.go_exposed.specs.declared.skipped.Skipped.{Skipped}
use Rattle.go_imports.proofs.Members.{below_or}
use Rattle.go_model.specs.declared.files.platform.Platform.{Platform}
use Rattle.go_model.specs.declared.files.tree.Tree.{Tree}
use Rattle.go_model.specs.files.Platforms.{bits_of}
use Rattle.go_units.specs.declared.unit.«Unit».{«Unit» as PackageUnit}
use Rattle.go_units.specs.declared.unit_list.Units.{Units}
use Rattle.go_work.specs.Answers.{sources}
use Rattle.go_work.specs.TypedUnits.{AreTypedUnits}
use Rattle.go_work.specs.declared.typed.TypedUnits.{TypedUnits}

module _ (tree std_tree : Tree) where
  pub lines_next : {all : List PackageLines} (us : List PackageUnit) (xss : List (List Skipped)) (i : ℕ) (u : PackageUnit) (xs : List Skipped) (old new : List PackageLines) → i < length us → i < length xss → u ≡ get_or us i u → xs ≡ get_or xss i xs
      → new ≡ with_lines u.path (skipped_texts tree std_tree u (all_skipped xs)) old → lines_with tree std_tree old (drop i us) (map all_skipped (drop i xss)) ≡ all
      → lines_with tree std_tree new (drop (i + 1) us) (map all_skipped (drop (i + 1) xss)) ≡ all
  lines_next us xss i u xs old new within beside is is_list e r =
      let here : u ∷ drop (i + 1) us ≡ drop i us = ap (λ y. y ∷ drop (i + 1) us) is ∙ sym (drop_more us i u within) in
      let there : xs ∷ drop (i + 1) xss ≡ drop i xss = ap (λ y. y ∷ drop (i + 1) xss) is_list ∙ sym (drop_more xss i xs beside) in
      ap (λ (w : List PackageLines). lines_with tree std_tree w (drop (i + 1) us) (map all_skipped (drop (i + 1) xss))) e ∙ (λ j. lines_with tree std_tree old (here j) (map all_skipped (there j))) ∙ r

  no_lists : (us : List PackageUnit) (ps : List PackageLines) → lines_with tree std_tree ps us [] ≡ ps
  no_lists [] ps = refl
  no_lists (u ∷ us) ps = refl

  pub lines_done : {all : List PackageLines} (us : List PackageUnit) (xss : List (List Skipped)) (i : ℕ) (old : List PackageLines) → min (length us) (length xss) ≤ i → lines_with tree std_tree old (drop i us) (map all_skipped (drop i xss)) ≡ all → old ≡ all
  lines_done us xss i old past r = elim (below_or i (length us)) [
    | inl within ↦
        sym (no_lists (drop i us) old) ∙ ap (λ (yss : List (List Skipped)). lines_with tree std_tree old (drop i us) (map all_skipped yss)) (sym (drop_past i xss (omega (arith, past, within)))) ∙ r
    | inr behind ↦ ap (λ (vs : List PackageUnit). lines_with tree std_tree old vs (map all_skipped (drop i xss))) (sym (drop_past i us behind)) ∙ r
  ]

-- packages that were typed as these units, with the bits of a platform
module _ (p : Platform) (units : Units) (bits : ℕ) (t : TypedUnits) (b : bits ≡ bits_of p) (wide : t.bits ≡ bits) (same : t.units ≡ units.packages) (typed : AreTypedUnits t) where
  pub typed_world : (s : TypedUnits) → s ≡ t → IsWorldOf (bits_of p) (sources_of units) s.world
  typed_world s e =
      subst (λ (v : TypedUnits). IsWorldOf (bits_of p) (sources_of units) v.world) (sym e)
      (subst (λ (n : ℕ). IsWorldOf n (sources_of units) t.world) (wide ∙ b) (subst (λ (us : List PackageUnit). IsWorldOf t.bits (sources us) t.world) same typed.world))

  pub typed_lines : (tree std_tree : Tree) (lines : List (List ℕ)) → lines ≡ all_lines (lines_with tree std_tree [] t.units (map all_skipped t.skipped)) → AreLinesOf tree std_tree p units lines
  typed_lines tree std_tree lines e = record {
    skipped = map all_skipped t.skipped;
    skips = subst (λ (n : ℕ). AreSkipped n (sources_of units) (map all_skipped t.skipped)) (wide ∙ b) (subst (λ (us : List PackageUnit). AreSkipped t.bits (sources us) (map all_skipped t.skipped)) same typed.skipped);
    «is» = e ∙ ap (λ (us : List PackageUnit). all_lines (lines_with tree std_tree [] us (map all_skipped t.skipped))) same;
  }

pub still_typed : (s t : TypedUnits) → s ≡ t → AreTypedUnits t → AreTypedUnits s
still_typed s t e h = subst AreTypedUnits (sym e) h
