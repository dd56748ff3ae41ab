-- Verdicts: what is broken where a new world takes the place of an old one, whether the feature lines differ, and how much of a change that is.
-- Public source: README of golang.org/x/exp/apidiff, for what a break is; Semantic Versioning 2.0.0, clauses 6 to 8, for the classes.
use Rattle.std.specs.Prelude.{◌≡◌, ◌↔◌, ℕ, ◌==◌, Bool, true, not, Decides, List, [], length, map, if◌then◌else◌}
use Rattle.std.specs.Ordering.{nat_cmp}
use Rattle.std.specs.Cmp.Lexicographic.{slice_cmp}
use Rattle.std.specs.List.{list_any}
use Rattle.std.specs.List.Sorted.{IsStrictlySortedBy}
use Rattle.go_base.specs.Lists.{Has}
use Rattle.go_model.specs.worlds.Worlds.{Packages}
use Rattle.api_advice.specs.declared.class.Class.{Class}
use Rattle.api_advice.specs.declared.class.Class.TheVariants as class
use Rattle.api_breaks.specs.Breaks.{IsBreak}
use Rattle.api_breaks.specs.declared.broken.Break.{Break}
use Rattle.api_correspond.specs.OwnedPairs.{HoldsOwned}
use Rattle.api_correspond.specs.Rules.{Compatible}
use Rattle.go_type_images.specs.declared.pair.TypePair.{TypePair}
use Rattle.api_features.specs.Features.{IsFeature}
use Rattle.api_judge.specs.declared.verdict.Verdict.{Verdict}
use Rattle.api_lines.specs.Lines.{printed as line_text}
use Rattle.api_lines.specs.declared.line.Line.{Line}
use Rattle.api_subjects.specs.Told.{IsTold, printed}
use Rattle.api_subjects.specs.declared.broken.Broken.{Broken}

-- something is broken, and told so
abbrev pub IsToldBreak : Packages → Packages → Broken → Type 0
IsToldBreak old new told = (b : Break) × IsBreak old new b × IsTold old new b told

-- one of them is printed so
abbrev pub HasPrinted : List Broken → List ℕ → Type 0
HasPrinted breaks text = (b : Broken) × Has breaks b × (printed b ≡ text)

-- exactly what is broken, each text once, in the order of bytes
pub record AreBreaks (old new : Packages) (breaks : List Broken) : Type 0 where
  pub sound : (b : Broken) → Has breaks b → IsToldBreak old new b
  pub complete : (b : Broken) → IsToldBreak old new b → HasPrinted breaks (printed b)
  pub ordered : IsStrictlySortedBy (slice_cmp nat_cmp) (map printed breaks)

-- a feature of the world is printed so
abbrev pub HasFeature : Packages → List ℕ → Type 0
HasFeature w text = (l : Line) × IsFeature w l × (line_text l ≡ text)

-- what one world has among its features, the other has too, by the texts
abbrev pub HaveSameFeatures : Packages → Packages → Type 0
HaveSameFeatures old new = (text : List ℕ) → HasFeature old text ↔ HasFeature new text

-- exactly what is broken, and no break exactly where the new world keeps all of the old one; whether the features differ; and that
-- a list holds all pairs of types that have to correspond
pub record IsVerdict (old new : Packages) (v : Verdict) : Type 0 where
  pub breaks : AreBreaks old new v.breaks
  pub compatible : (v.breaks ≡ []) ↔ Compatible old new
  pub held : (pairs : List TypePair) × HoldsOwned old new pairs
  pub changed : Decides v.changed (HaveSameFeatures old new → ⊥)

-- something is broken
abbrev pub has_break : Verdict → Bool
has_break v = not (length v.breaks == 0)

-- the features differ
abbrev pub is_changed : Verdict → Bool
is_changed v = v.changed

-- a break on one platform makes a release a major one, other feature lines on one a minor one
abbrev pub class_of : List Verdict → Class
class_of verdicts = if list_any has_break verdicts then class.Major else (if list_any is_changed verdicts then class.Minor else class.Patch)
