use Rattle.std.proofs.Common.{◌≡◌, ◌++◌, drop, map}
use Rattle.api_lines.specs.Lines.{printed}
use Rattle.api_reports.specs.Reports.{unlines}
use Rattle.api_reports.proofs.reports.features_text.Given as goal

abbrev pub invariant-loop-line : goal.invariant-loop-line
invariant-loop-line l = l.text.items ++ unlines (map printed (drop l.line-index l.lines)) ≡ unlines (map printed l.lines)
