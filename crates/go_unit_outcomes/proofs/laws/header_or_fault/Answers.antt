use Rattle.go_unit_outcomes.proofs.FileHeaders.{header_or_fault}
use Rattle.go_unit_outcomes.proofs.laws.header_or_fault.Goals as goal

pub returns : goal.returns
returns c = λ bytes. header_or_fault bytes
