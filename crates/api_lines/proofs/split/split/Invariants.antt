use Rattle.api_lines.proofs.Splits.{IsSplitting}
use Rattle.api_lines.proofs.split.split.Given as goal

abbrev pub invariant-loop : goal.invariant-loop
invariant-loop l = IsSplitting l.fn.first l.fn.second l.first.items l.second.items l.shared l.leaving l.rest
