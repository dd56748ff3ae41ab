use Rattle.std.proofs.Common.{◌≡◌, ◌++◌, drop, map}
use Rattle.api_reports.specs.Reports.{signed, unlines}
use Rattle.api_reports.proofs.reports.signed_text.Given as goal

abbrev pub invariant-loop-line : goal.invariant-loop-line
invariant-loop-line l = l.text.items ++ unlines (map signed (drop l.line-index l.lines)) ≡ unlines (map signed l.lines)
