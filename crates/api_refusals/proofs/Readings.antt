-- Texts that are made from the bytes of a counted file.
use mathlib.Core.Bool.{true≢false}
use Rattle.std.proofs.Common.{◌≡◌, ℕ, true, List, [], ◌∷◌, ◌++◌, Option, Some, None, length, refl, sym, ap, ◌∙◌, ◌==◌, codes, slice_get}
use Rattle.std.proofs.Math.Dec.{eqb-suc-zero}
use Rattle.go_exposed.specs.SkippedDeclarations.{Skipped as SkippedDeclaration}
use Rattle.go_exposed.specs.SkippedValues.{all_skipped}
use Rattle.go_exposed.specs.declared.skipped.Skipped.{Skipped}
use Rattle.go_model.specs.declared.files.tree.Tree.{Tree}
use Rattle.go_units.specs.declared.unit.«Unit».{«Unit» as PackageUnit}
use Rattle.go_units.specs.declared.unit.UnitFile.{UnitFile}
use Rattle.api_refusals.specs.Refusals.{file_place}
use Rattle.api_refusals.specs.Roots.{root_by}
use Rattle.api_refusals.specs.SkippedTexts.{listed_names, skipped_text, skipped_texts, why}
use Rattle.api_refusals.specs.declared.root.Root.{Root}
use Rattle.api_refusals.specs.inner.Readings.{bytes_of, place_with, skipped_with}

module _ (tree std_tree : Tree) where
  place_as : (r : Root) (f : Option UnitFile) (offset : ℕ) → place_with (bytes_of tree std_tree r f) r f offset ≡ file_place tree std_tree [] r f offset
  place_as r None offset = refl
  place_as r (Some f) offset = refl

  -- in the bytes of its own file a declaration's text is the one that is told
  pub as_skipped : (u : PackageUnit) (bytes : List ℕ) (number : ℕ) (s : SkippedDeclaration) → bytes ≡ bytes_of tree std_tree (root_by u.from_std u.path) (slice_get u.files number)
      → number ≡ s.place.file → skipped_with bytes u s ≡ skipped_text tree std_tree u s
  as_skipped u bytes number s e n =
      ap (λ (w : List ℕ). w ++ codes " " ++ listed_names s.names ++ codes ": " ++ why s.cause)
      (ap (λ (w : List ℕ). place_with w (root_by u.from_std u.path) (slice_get u.files s.place.file) s.place.offset)
      (e ∙ ap (λ (k : ℕ). bytes_of tree std_tree (root_by u.from_std u.path) (slice_get u.files k)) n)
      ∙ place_as (root_by u.from_std u.path) (slice_get u.files s.place.file) s.place.offset)

  pub none_skipped : (u : PackageUnit) (xs : List Skipped) → (length xs == 0) ≡ true → [] ≡ skipped_texts tree std_tree u (all_skipped xs)
  none_skipped u [] e = refl
  none_skipped u (x ∷ xs) e = absurd (true≢false (sym e ∙ eqb-suc-zero (length xs)))
