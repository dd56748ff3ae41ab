-- What a run finds in its trees on platforms: the features of the new tree, and where there is an old one, the verdict on both; or the first
-- refusal with its fault line.
-- Own: the order of refusals, platform by platform, and the old tree before the new one.
use Rattle.std.specs.Prelude.{◌≡◌, ◌≢◌, ℕ, Bool, List, [], ◌∷◌, ◌++◌, length, map, Option, Some, None, Result, Ok, Err}
use Rattle.go_base.specs.Lists.{Has}
use Rattle.go_model.specs.declared.files.platform.Platform.{Platform}
use Rattle.go_model.specs.declared.files.tree.Tree.{Tree}
use Rattle.go_model.specs.files.Trees.{IsTree}
use Rattle.go_model.specs.worlds.Worlds.{Packages}
use Rattle.api_features.specs.Features.{IsFeature}
use Rattle.api_findings.specs.declared.findings.Findings.{Findings}
use Rattle.api_judge.specs.Verdicts.{IsVerdict}
use Rattle.api_judge.specs.declared.verdict.Verdict.{Verdict}
use Rattle.api_lines.specs.Lines.{IsListing}
use Rattle.api_lines.specs.declared.line.Line.{Line}
use Rattle.api_subjects.specs.Told.{printed}
use Rattle.api_texts.specs.declared.left_out.LeftOut.{LeftOut}
use Rattle.api_texts.specs.declared.lines.Side.TheVariants as side
use Rattle.api_worlds.specs.LeftOut.{AreLeftOutOn}
use Rattle.api_worlds.specs.PlatformWorlds.{IsRefusedOn, IsWorldOn}
use Rattle.api_worlds.specs.declared.error.PlatformError.{PlatformError}
use Rattle.api_worlds.specs.declared.error.PlatformError.TheVariants as error

-- an old tree keeps the facts of trees, and its module's path is barred
abbrev pub IsOldTree : List (List ℕ) → Option Tree → Type 0
IsOldTree barred None = Unit {0}
IsOldTree barred (Some tree) = IsTree tree × (tree.module ≢ []) × Has barred tree.module

module _ (barred : List (List ℕ)) (old : Option Tree) (tree std_tree : Tree) where
  -- on a platform: the features, and no verdict or one
  pub data Finds (p : Platform) : List Line → List Verdict → Type 0 where
    features_alone : {lines : List Line} (w : Packages) → old ≡ None → IsWorldOn barred tree std_tree p w → IsListing (IsFeature w) lines → Finds p lines []
    with_verdict : {lines : List Line} {v : Verdict} (o : Tree) (before now : Packages) → old ≡ Some o → IsWorldOn barred o std_tree p before → IsWorldOn barred tree std_tree p now
        → IsListing (IsFeature now) lines → IsVerdict before now v → Finds p lines (v ∷ [])

  -- on each of the platforms
  pub data AreFindings : List Platform → List (List Line) → List Verdict → Type 0 where
    find_none : AreFindings [] [] []
    find_more : {p : Platform} {ps : List Platform} {lines : List Line} {lists : List (List Line)} {vs ws : List Verdict}
        → Finds p lines vs → AreFindings ps lists ws → AreFindings (p ∷ ps) (lines ∷ lists) (vs ++ ws)

  -- an old tree, where there is one, has a world on the platform
  abbrev pub OldStands : Platform → Type 0
  OldStands p = (o : Tree) → old ≡ Some o → (w : Packages) × IsWorldOn barred o std_tree p w

  -- the fault line of the trees on a platform
  pub data IsRefusal (p : Platform) : List ℕ → Type 0 where
    old_refused : {line : List ℕ} (o : Tree) → old ≡ Some o → IsRefusedOn barred o std_tree side.Old p line → IsRefusal p line
    new_refused : {line : List ℕ} → OldStands p → IsRefusedOn barred tree std_tree side.New p line → IsRefusal p line

  -- that of the first platform on which a tree is refused
  pub data IsFirstRefusal : List Platform → List ℕ → Type 0 where
    refused_here : {p : Platform} {ps : List Platform} {line : List ℕ} → IsRefusal p line → IsFirstRefusal (p ∷ ps) line
    refused_later : {p : Platform} {ps : List Platform} {line : List ℕ} (w : Packages) → OldStands p → IsWorldOn barred tree std_tree p w → IsFirstRefusal ps line → IsFirstRefusal (p ∷ ps) line

  -- the findings on the platforms, or that fault line; want of memory may come at any time
  abbrev pub AnswersFindings : List Platform → Result Findings PlatformError → Type 0
  AnswersFindings ps (Ok found) = AreFindings ps found.features found.verdicts
  AnswersFindings ps (Err (error.Refused line)) = IsFirstRefusal ps line
  AnswersFindings ps (Err error.NoMemory) = Unit {0}

-- ---- what is left out

module _ (barred : List (List ℕ)) (std_tree : Tree) where
  -- how many declarations of a tree are left out on a platform: none, where there is no tree
  abbrev pub CountsLeftOut : Option Tree → Platform → ℕ → Type 0
  CountsLeftOut None p n = n ≡ 0
  CountsLeftOut (Some tree) p n = (lines : List (List ℕ)) × AreLeftOutOn barred tree std_tree p lines × (n ≡ length lines)

  -- what is left out of an old tree and of a new one
  pub record IsLeftOut (old : Option Tree) (tree : Tree) (p : Platform) (l : LeftOut) : Type 0 where
    pub of_old : CountsLeftOut old p l.old
    pub of_new : AreLeftOutOn barred tree std_tree p l.new

  -- on each of the platforms
  abbrev pub AreLeftOut : Option Tree → Tree → List Platform → List LeftOut → Type 0
  AreLeftOut old tree [] [] = Unit {0}
  AreLeftOut old tree [] (l ∷ ls) = ⊥
  AreLeftOut old tree (p ∷ ps) [] = ⊥
  AreLeftOut old tree (p ∷ ps) (l ∷ ls) = IsLeftOut old tree p l × AreLeftOut old tree ps ls

-- ---- what is shown

-- what reports show of a verdict
pub record Shown : Type 0 where
  pub breaks : List (List ℕ)
  pub changed : Bool

abbrev pub shown : Verdict → Shown
shown v = record { breaks = map printed v.breaks; changed = v.changed }
