-- What is broken, told.
-- Own: this project's reports.
use Rattle.std.specs.Prelude.{List}
use Rattle.go_base.specs.Lists.{Has}
use Rattle.go_model.specs.worlds.Worlds.{Packages}
use Rattle.api_breaks.specs.declared.broken.Break.{Break}
use Rattle.api_subjects.specs.Told.{IsTold}
use Rattle.api_subjects.specs.declared.broken.Broken.{Broken}

-- one of these breaks is told so
abbrev pub IsToldOf : Packages → Packages → List Break → Broken → Type 0
IsToldOf old new breaks told = (b : Break) × Has breaks b × IsTold old new b told
