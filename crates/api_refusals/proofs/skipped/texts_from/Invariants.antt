use Rattle.std.proofs.Common.{◌≡◌, take}
use Rattle.go_exposed.specs.SkippedValues.{all_skipped}
use Rattle.api_refusals.specs.SkippedTexts.{skipped_texts}
use Rattle.api_refusals.specs.inner.Readings.{IsReading}
use Rattle.api_refusals.proofs.skipped.texts_from.Given as goal

abbrev pub invariant-loop-declaration : goal.invariant-loop-declaration
invariant-loop-declaration l = IsReading l.tree l.std_tree l.«unit» l.reading × (l.texts ≡ skipped_texts l.tree l.std_tree l.«unit» (all_skipped (take l.declaration-index l.skipped)))
