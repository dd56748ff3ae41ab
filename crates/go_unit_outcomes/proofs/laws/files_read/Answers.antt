use Rattle.go_unit_outcomes.proofs.FileReadings.{files_read}
use Rattle.go_unit_outcomes.proofs.laws.files_read.Goals as goal

pub returns : goal.returns
returns c = λ p files. files_read p files
