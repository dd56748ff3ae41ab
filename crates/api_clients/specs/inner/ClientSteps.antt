-- What the steps to the answer of a platform answer.
use Rattle.std.specs.Prelude.{◌≡◌, ℕ, Option, Some, None, List, [], ◌∷◌, ◌++◌, Result, Ok, Err}
use Rattle.api_clients.specs.ClientAnswers.{IsAnsweredOn, IsRefusedOn, told_as}
use Rattle.api_refusals.specs.Refusals.{package_text, refusal_line}
use Rattle.api_reports.specs.declared.clients.ClientAnswer.{ClientAnswer}
use Rattle.api_texts.specs.declared.lines.Side.TheVariants as side
use Rattle.api_worlds.specs.PlatformWorlds.{sources_of}
use Rattle.api_worlds.specs.declared.error.PlatformError.{PlatformError}
use Rattle.api_worlds.specs.declared.error.PlatformError.TheVariants as error
use Rattle.go_client_typings.specs.declared.vetted.Vetted.{Vetted}
use Rattle.go_client_unit_laws.specs.go_client_units.declared.units.ClientUnit.{ClientUnit}
use Rattle.go_client_unit_laws.specs.go_client_units.declared.units.ClientUnits.{ClientUnits}
use Rattle.go_clients.specs.Vetting.{IsVettedAs}
use Rattle.go_exposed.specs.OfferedWorlds.{IsFirstRefused, IsWorldOf}
use Rattle.go_file_choices.specs.AlikePlatforms.{AreAlike, files_of}
use Rattle.go_model.specs.declared.files.platform.Platform.{Platform}
use Rattle.go_model.specs.declared.files.tree.Tree.{Tree}
use Rattle.go_model.specs.declared.files.tree.TreeFile.{TreeFile}
use Rattle.go_model.specs.files.Platforms.{bits_of}
use Rattle.go_model.specs.worlds.Worlds.{Packages}
use Rattle.go_typings.specs.Refusals.{Refusal}

-- this is told of the client over the world
pub record IsTold (files : List TreeFile) (world : Packages) (bits : ℕ) (c : Option ClientUnit) (a : ClientAnswer) : Type 0 where
  pub vetted : Vetted
  pub told : IsVettedAs world bits c vetted
  pub answer : a ≡ told_as files c vetted

module _ (tree std_tree client : Tree) (p : Platform) where
  -- what is told over the world of these units
  pub record IsToldOf (units : ClientUnits) (a : ClientAnswer) : Type 0 where
    pub world : Packages
    pub is : IsWorldOf (bits_of p) (sources_of units.packages) world
    pub told : IsTold client.files world (bits_of p) units.client a

  -- that, or the fault line of the first package that is refused
  abbrev pub AnswersOfUnits : ClientUnits → Result ClientAnswer PlatformError → Type 0
  AnswersOfUnits units (Ok a) = IsToldOf units a
  AnswersOfUnits units (Err (error.Refused line)) = (n : ℕ) × (r : Refusal) × IsFirstRefused (bits_of p) (sources_of units.packages) n r × (line ≡ refusal_line side.New p (package_text tree std_tree client.files units.packages.packages n r))
  AnswersOfUnits units (Err error.NoMemory) = Unit {0}

-- none or one
abbrev pub listed : {A : Type 0} → Option A → List A
listed None = []
listed (Some x) = x ∷ []

module _ (barred : List (List ℕ)) (tree std_tree client : Tree) where
  -- the fault line of a platform; want of memory may come at any time
  abbrev pub IsErrorOn : Platform → PlatformError → Type 0
  IsErrorOn p (error.Refused line) = IsRefusedOn barred tree std_tree client p line
  IsErrorOn p error.NoMemory = Unit {0}

  -- what is told on a platform, or such an error
  abbrev pub AnswersOn : Platform → Result ClientAnswer PlatformError → Type 0
  AnswersOn p (Ok a) = IsAnsweredOn barred tree std_tree client p a
  AnswersOn p (Err e) = IsErrorOn p e

  -- what is told on a platform more, beside what was told before
  pub record IsAdded (p : Platform) (given new : List ClientAnswer) : Type 0 where
    pub more : ClientAnswer
    pub is : IsAnsweredOn barred tree std_tree client p more
    pub added : new ≡ given ++ more ∷ []

  abbrev pub AnswersNext : Platform → List ClientAnswer → List ClientAnswer → Result (Unit {0}) PlatformError → Type 0
  AnswersNext p given new (Ok _) = IsAdded p given new
  AnswersNext p given new (Err e) = IsErrorOn p e

  -- what was told on a platform that is alike
  pub record IsAnsweredAlike (p : Platform) (found : Option ClientAnswer) : Type 0 where
    pub earlier : Platform
    pub alike : AreAlike (files_of (Some client) tree std_tree) earlier p
    pub answer : ClientAnswer
    pub is : found ≡ Some answer
    pub there : IsAnsweredOn barred tree std_tree client earlier answer
