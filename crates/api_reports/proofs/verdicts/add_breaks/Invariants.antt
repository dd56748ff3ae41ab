use Rattle.std.proofs.Common.{◌≡◌, ◌++◌, drop, map}
use Rattle.api_reports.specs.Reports.{break_line, unlines}
use Rattle.api_reports.proofs.verdicts.add_breaks.Given as goal

abbrev pub invariant-loop-broken : goal.invariant-loop-broken
invariant-loop-broken l = l.text.items ++ unlines (map (break_line l.platform) (drop l.broken-index l.breaks)) ≡ l.fn.text.items ++ unlines (map (break_line l.platform) l.breaks)
