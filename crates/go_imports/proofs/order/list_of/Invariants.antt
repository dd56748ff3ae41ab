use Rattle.std.proofs.Common.{◌≡◌, take}
use Rattle.go_imports.proofs.order.list_of.Given as goal

abbrev pub invariant-loop-at : goal.invariant-loop-at
invariant-loop-at l = l.order ≡ take l.at l.standing.keys
