use Rattle.api_line_outcomes.proofs.LineLists.{lines_merged}
use Rattle.api_line_outcomes.proofs.laws.lines_merged.Goals as goal

pub returns : goal.returns
returns c = λ lists platforms. lines_merged lists platforms
