-- What is found on one platform.
use Rattle.std.specs.Prelude.{◌≡◌, ℕ, List, [], ◌∷◌, ◌++◌, length, Option, Some, None, Result, Ok, Err}
use Rattle.api_features.specs.Features.{IsFeature}
use Rattle.api_findings.specs.Findings.{Finds, IsLeftOut, IsRefusal}
use Rattle.api_findings.specs.declared.found.Found.{Found}
use Rattle.api_judge.specs.Verdicts.{IsVerdict}
use Rattle.api_judge.specs.declared.verdict.Verdict.{Verdict}
use Rattle.api_lines.specs.Lines.{IsListing}
use Rattle.api_lines.specs.declared.line.Line.{Line}
use Rattle.api_texts.specs.declared.left_out.LeftOut.{LeftOut}
use Rattle.api_worlds.specs.declared.error.PlatformError.{PlatformError}
use Rattle.api_worlds.specs.declared.error.PlatformError.TheVariants as error
use Rattle.go_file_choices.specs.AlikePlatforms.{AreAlike, files_of}
use Rattle.go_model.specs.declared.files.platform.Platform.{Platform}
use Rattle.go_model.specs.declared.files.tree.Tree.{Tree}
use Rattle.go_model.specs.worlds.Worlds.{Packages}

-- none or one
abbrev pub listed : {A : Type 0} → Option A → List A
listed None = []
listed (Some v) = v ∷ []

-- the verdict that is found, where there is one
abbrev pub verdicts_of : Found → List Verdict
verdicts_of found = listed found.verdict

-- what was left out of a new tree alone
abbrev pub left_out_alone : List (List ℕ) → LeftOut
left_out_alone lines = record { old = 0; new = lines }

-- and of both
abbrev pub left_out_of : List (List ℕ) → List (List ℕ) → LeftOut
left_out_of before now = record { old = length before; new = now }

-- the features of the new world, and the verdict on both
pub record IsCompared (old new : Packages) (found : Found) : Type 0 where
  pub verdict : Verdict
  pub is : found.verdict ≡ Some verdict
  pub features : IsListing (IsFeature new) found.lines
  pub judged : IsVerdict old new verdict

module _ (barred : List (List ℕ)) (old : Option Tree) (tree std_tree : Tree) where
  -- the fault line of the trees on a platform; want of memory may come at any time
  abbrev pub IsError : Platform → PlatformError → Type 0
  IsError p (error.Refused line) = IsRefusal barred old tree std_tree p line
  IsError p error.NoMemory = Unit {0}

  -- what is found on a platform, or such an error
  abbrev pub AnswersFound : Platform → Result Found PlatformError → Type 0
  AnswersFound p (Ok found) = Finds barred old tree std_tree p found.lines (verdicts_of found)
  AnswersFound p (Err e) = IsError p e

  -- what is found on a platform more, beside what was found before
  pub record IsAdded (p : Platform) (lists : List (List Line)) (vs : List Verdict) (new_lists : List (List Line)) (new_vs : List Verdict) : Type 0 where
    pub lines : List Line
    pub verdict : Option Verdict
    pub features : new_lists ≡ lists ++ lines ∷ []
    pub verdicts : new_vs ≡ vs ++ listed verdict
    pub found : Finds barred old tree std_tree p lines (listed verdict)

  -- the same, or such an error
  abbrev pub AnswersNext : Platform → List (List Line) → List Verdict → List (List Line) → List Verdict → Result (Unit {0}) PlatformError → Type 0
  AnswersNext p lists vs new_lists new_vs (Ok _) = IsAdded p lists vs new_lists new_vs
  AnswersNext p lists vs new_lists new_vs (Err e) = IsError p e

  -- what is left out on a platform more, beside what was left out before
  pub record IsMoreLeftOut (p : Platform) (ls new : List LeftOut) : Type 0 where
    pub more : LeftOut
    pub is : IsLeftOut barred std_tree old tree p more
    pub added : new ≡ ls ++ more ∷ []

  -- what was left out on a platform that is alike
  pub record IsLeftOutAlike (p : Platform) (found : Option LeftOut) : Type 0 where
    pub earlier : Platform
    pub alike : AreAlike (files_of old tree std_tree) earlier p
    pub left_out : LeftOut
    pub is : found ≡ Some left_out
    pub there : IsLeftOut barred std_tree old tree earlier left_out

  -- what was found on a platform that is alike
  pub record IsFoundAlike (p : Platform) (lines : List Line) (verdict : Option Verdict) : Type 0 where
    pub earlier : Platform
    pub alike : AreAlike (files_of old tree std_tree) earlier p
    pub found : Finds barred old tree std_tree earlier lines (listed verdict)
