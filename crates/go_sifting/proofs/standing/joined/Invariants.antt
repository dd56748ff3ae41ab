use Rattle.go_sifting.specs.inner.FirstJoined.{AreFirstJoined}
use Rattle.go_sifting.proofs.standing.joined.Given as goal

abbrev pub invariant-loop-number : goal.invariant-loop-number
invariant-loop-number l = AreFirstJoined l.left l.right l.number l.flags.items
