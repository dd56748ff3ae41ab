use Rattle.std.proofs.Common.{◌≡◌, ◌+◌, drop}
use Rattle.api_reports.specs.Reports.{count_breaks}
use Rattle.api_reports.proofs.verdicts.count_breaks.Given as goal

abbrev pub invariant-loop-verdict : goal.invariant-loop-verdict
invariant-loop-verdict l = l.count + count_breaks (drop l.verdict-index l.verdicts) ≡ count_breaks l.verdicts
