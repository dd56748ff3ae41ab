-- What is broken, as reports tell it.
-- Own: this project's reports.
use Rattle.std.specs.Prelude.{◌≡◌, ℕ, List, ◌++◌, codes}
use Rattle.go_model.specs.worlds.Worlds.{Packages}
use Rattle.api_breaks.specs.declared.broken.Break.{Break}
use Rattle.api_subjects.specs.Rules.{rule_name, rule_of}
use Rattle.api_subjects.specs.Subjects.{IsSubject}
use Rattle.api_subjects.specs.declared.broken.Broken.{Broken}

-- the owner, the rule and the subject of what is broken
pub record IsTold (old new : Packages) (b : Break) (told : Broken) : Type 0 where
  pub owner : told.owner ≡ b.owner
  pub rule : told.rule ≡ rule_of b.lost
  pub subject : IsSubject old new b.lost told.subject

abbrev pub printed : Broken → List ℕ
printed b = b.owner ++ codes " " ++ rule_name b.rule ++ codes " " ++ b.subject
