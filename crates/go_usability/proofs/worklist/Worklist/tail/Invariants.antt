use Rattle.std.proofs.Common.{◌≡◌, take, drop}
use Rattle.go_usability.proofs.worklist.Worklist.tail.Given as goal

abbrev pub invariant-loop-part : goal.invariant-loop-part
invariant-loop-part l = l.tail.items ≡ take l.part-index (drop l.from l.self.all.items)
