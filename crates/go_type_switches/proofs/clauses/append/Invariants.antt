use Rattle.std.proofs.Common.{◌≡◌, ◌++◌, drop}
use Rattle.go_type_switches.proofs.clauses.append.Given as goal

abbrev pub invariant-loop-one : goal.invariant-loop-one
invariant-loop-one l = l.all ++ drop l.one-index l.listed ≡ l.fn.all ++ l.listed
