use Rattle.api_lines.proofs.Joins.{IsJoining}
use Rattle.api_lines.proofs.join.joined.Given as goal

abbrev pub invariant-loop : goal.invariant-loop
invariant-loop l = IsJoining l.fn.first l.fn.second l.first.items l.second.items l.all.items
