use Rattle.api_line_outcomes.proofs.FrozenFiles.{lines_read}
use Rattle.api_line_outcomes.proofs.laws.lines_read.Goals as goal

pub returns : goal.returns
returns c = λ bytes. lines_read bytes
