-- Which words are good, and what they ask for. The words are those after the program's name.
-- Own: this project's command line.
use Rattle.std.specs.Prelude.{◌≡◌, ◌≢◌, ◌≤◌, ◌<◌, ◌^◌, ◌⊎◌, ℕ, Bool, nat_eq, Option, Some, None, List, [], ◌∷◌, length, map, codes, if◌then◌else◌, Ok}
use Rattle.std.specs.Fmt.{decimal}
use Rattle.std.specs.List.{slice_split}
use Rattle.go_base.specs.Lists.{Each, Has, Once}
use Rattle.go_model.specs.declared.files.platform.Platform.{Platform}
use Rattle.go_model.specs.declared.files.platform.Platform.TheVariants as platform
use Rattle.go_model.specs.files.Platforms.{name_of}
use Rattle.semver.specs.Parse.{Parts, version_parts}
use Rattle.api_advice.specs.declared.release.Release.{Release}
use Rattle.api_words.specs.Options.{needs, permits, spelling, word_of}
use Rattle.api_words.specs.declared.option_name.Mode.{Mode}
use Rattle.api_words.specs.declared.option_name.Mode.TheVariants as mode
use Rattle.api_words.specs.declared.option_name.OptionName.{OptionName}
use Rattle.api_words.specs.declared.option_name.OptionName.TheVariants as option
use Rattle.api_words.specs.declared.request.AskedVersion.{AskedVersion}
use Rattle.api_words.specs.declared.request.MadeTrees.{MadeTrees}
use Rattle.api_words.specs.declared.request.Request.{Request}
use Rattle.api_words.specs.declared.settings.Setting.{Setting}

-- ---- options and values

-- a value isn't empty and doesn't begin with `-`
abbrev pub IsValue : List ℕ → Type 0
IsValue [] = ⊥
IsValue (b ∷ bs) = b ≢ 45

-- a word and the one after it are an option and its value
pub record IsSetting (word value : List ℕ) (s : Setting) : Type 0 where
  pub name : word ≡ spelling s.name
  pub same : value ≡ s.value
  pub good : IsValue value

-- the words are options, each followed by its value
abbrev pub AreSettings : List (List ℕ) → List Setting → Type 0
AreSettings [] [] = Unit {0}
AreSettings (word ∷ value ∷ words) (s ∷ settings) = IsSetting word value s × AreSettings words settings
AreSettings words settings = ⊥

abbrev pub option_in : Setting → OptionName
option_in s = s.name

-- the option is given this value, or none
abbrev pub IsGiven : List Setting → OptionName → Option (List ℕ) → Type 0
IsGiven settings name (Some value) = Has settings (record { name = name; value = value })
IsGiven settings name None = (value : List ℕ) → Has settings (record { name = name; value = value }) → ⊥

-- no option stands twice, each one is of the mode, and those that the mode needs are there
pub record AreOfMode (mode : Mode) (settings : List Setting) : Type 0 where
  pub once : Once (map option_in settings)
  pub own : (s : Setting) → Has settings s → Has (needs mode) s.name ⊎ Has (permits mode) s.name
  pub given : (name : OptionName) → Has (needs mode) name → Has (map option_in settings) name

-- ---- what values mean

abbrev pub is_comma : ℕ → Bool
is_comma b = nat_eq b 44

-- the names of platforms, joined by commas, none twice; where nothing is given, linux-amd64
abbrev pub ArePlatforms : Option (List ℕ) → List Platform → Type 0
ArePlatforms None platforms = platforms ≡ platform.LinuxAmd64 ∷ []
ArePlatforms (Some value) platforms = (slice_split is_comma value ≡ map name_of platforms) × Once platforms

-- a decimal number from 1 to 64; where nothing is given, 1
abbrev pub IsWorkers : Option (List ℕ) → ℕ → Type 0
IsWorkers None workers = workers ≡ 1
IsWorkers (Some value) workers = (value ≡ decimal workers) × (1 ≤ workers) × (workers ≤ 64)

-- at most 64 names of files, joined by commas, none of them empty
abbrev pub AreFileNames : Option (List ℕ) → List (List ℕ) → Type 0
AreFileNames None names = names ≡ []
AreFileNames (Some value) names = (slice_split is_comma value ≡ names) × Each (λ name. name ≢ []) names × (length names ≤ 64)

-- the folder of the new tree: the one that is given, and else where the generator puts its own
abbrev pub IsNewFolder : Option (List ℕ) → List ℕ → Type 0
IsNewFolder None folder = folder ≡ codes "new"
IsNewFolder (Some value) folder = folder ≡ value

-- the folder of the old tree, where one is given or the generator makes one
abbrev pub IsOldFolder : Mode → Option (List ℕ) → Option (List ℕ) → Type 0
IsOldFolder mode.Make given folder = folder ≡ Some (codes "old")
IsOldFolder mode given folder = folder ≡ given

-- a text without one `v` in front
abbrev pub without_v : List ℕ → List ℕ
without_v [] = []
without_v (b ∷ bytes) = if nat_eq b 118 then bytes else b ∷ bytes

-- the numbers of a version that has neither a pre-release nor build metadata
abbrev pub release_of : Parts → Option Release
release_of (major, minor, patch, [], []) = Some (record { major = major; minor = minor; patch = patch })
release_of parts = None

-- a version of SemVer 2.0.0, with or without one `v` in front, whose numbers are below 2^64
pub record IsAskedVersion (value : List ℕ) (v : AskedVersion) : Type 0 where
  pub word : v.word ≡ value
  pub parts : Parts
  pub parsed : version_parts (without_v value) ≡ Ok parts
  pub release : v.release ≡ release_of parts

abbrev pub IsVersion : Option (List ℕ) → Option AskedVersion → Type 0
IsVersion None version = version ≡ None
IsVersion (Some value) version = (v : AskedVersion) × IsAskedVersion value v × (version ≡ Some v)

-- decimal numbers without sign or leading zero: one below 2^64, and one from 1 to 2,000
pub record AreMade (seed size : List ℕ) (m : MadeTrees) : Type 0 where
  pub seed_is : seed ≡ decimal m.seed
  pub size_is : size ≡ decimal m.size
  pub held : m.seed < 2 ^ 64
  pub some : 1 ≤ m.size
  pub few : m.size ≤ 2000

-- what the generator is to make, where it is
abbrev pub IsMade : Option (List ℕ) → Option (List ℕ) → Option MadeTrees → Type 0
IsMade (Some seed) (Some size) made = (m : MadeTrees) × AreMade seed size m × (made ≡ Some m)
IsMade seed size made = made ≡ None

-- what an option is given means this
abbrev pub Means : {A : Type 0} → List Setting → OptionName → (Option (List ℕ) → A → Type 0) → A → Type 0
Means settings name Meaning x = (given : Option (List ℕ)) × IsGiven settings name given × Meaning given x

-- ---- requests

-- the settings are of the mode, and ask for this
pub record AsksFor (settings : List Setting) (r : Request) : Type 0 where
  pub of_mode : AreOfMode r.mode settings
  pub old : Means settings option.Old (IsOldFolder r.mode) r.old
  pub new : Means settings option.New IsNewFolder r.new
  pub std : IsGiven settings option.Std r.std
  pub client : IsGiven settings option.Client r.client
  pub platforms : Means settings option.Platforms ArePlatforms r.platforms
  pub workers : Means settings option.Workers IsWorkers r.workers
  pub api : Means settings option.Api AreFileNames r.api
  pub except : IsGiven settings option.Except r.except
  pub version : Means settings option.Version IsVersion r.version
  pub seed : Option (List ℕ)
  pub size : Option (List ℕ)
  pub seed_given : IsGiven settings option.Seed seed
  pub size_given : IsGiven settings option.Size size
  pub made : IsMade seed size r.made

-- a mode, and then options and values in any order
pub record IsRequest (words : List (List ℕ)) (r : Request) : Type 0 where
  pub rest : List (List ℕ)
  pub settings : List Setting
  pub mode : words ≡ word_of r.mode ∷ rest
  pub spelled : AreSettings rest settings
  pub asked : AsksFor settings r

-- no request is made: the words aren't good
abbrev pub AreBad : List (List ℕ) → Type 0
AreBad words = (r : Request) → IsRequest words r → ⊥
