use Rattle.api_line_outcomes.proofs.SignedLines.{lines_compared}
use Rattle.api_line_outcomes.proofs.laws.lines_compared.Goals as goal

pub returns : goal.returns
returns c = λ features required exceptions. lines_compared features required exceptions
