-- The modes and their options: how they are written, and which options a mode needs and permits.
-- Own: this project's command line.
use Rattle.std.specs.Prelude.{ℕ, List, [], ◌∷◌, codes}
use Rattle.api_words.specs.declared.option_name.Mode.{Mode}
use Rattle.api_words.specs.declared.option_name.Mode.TheVariants as mode
use Rattle.api_words.specs.declared.option_name.OptionName.{OptionName}
use Rattle.api_words.specs.declared.option_name.OptionName.TheVariants as option

-- how a mode is written
abbrev pub word_of : Mode → List ℕ
word_of mode.Features = codes "features"
word_of mode.Frozen = codes "frozen"
word_of mode.Judge = codes "judge"
word_of mode.Advise = codes "advise"
word_of mode.Gate = codes "gate"
word_of mode.Skipped = codes "skipped"
word_of mode.Vet = codes "vet"
word_of mode.Make = codes "make"

-- how an option is written
abbrev pub spelling : OptionName → List ℕ
spelling option.Old = codes "--old"
spelling option.New = codes "--new"
spelling option.Std = codes "--std"
spelling option.Client = codes "--client"
spelling option.Platforms = codes "--platforms"
spelling option.Workers = codes "--workers"
spelling option.Api = codes "--api"
spelling option.Except = codes "--except"
spelling option.Version = codes "--version"
spelling option.Seed = codes "--seed"
spelling option.Size = codes "--size"

-- the options that may be given in every mode that reads a tree
abbrev pub common : List OptionName
common = option.Std ∷ option.Platforms ∷ option.Workers ∷ []

-- the options that have to be given in a mode
abbrev pub needs : Mode → List OptionName
needs mode.Features = option.New ∷ []
needs mode.Frozen = option.New ∷ option.Api ∷ []
needs mode.Judge = option.Old ∷ option.New ∷ []
needs mode.Advise = option.Old ∷ option.New ∷ option.Version ∷ []
needs mode.Gate = option.Old ∷ option.New ∷ option.Api ∷ option.Version ∷ []
needs mode.Skipped = option.New ∷ []
needs mode.Vet = option.New ∷ option.Client ∷ []
needs mode.Make = option.Seed ∷ option.Size ∷ []

-- the options that may be given in it besides
abbrev pub permits : Mode → List OptionName
permits mode.Features = common
permits mode.Frozen = option.Except ∷ common
permits mode.Judge = common
permits mode.Advise = common
permits mode.Gate = option.Except ∷ common
permits mode.Skipped = common
permits mode.Vet = common
permits mode.Make = option.Workers ∷ []
