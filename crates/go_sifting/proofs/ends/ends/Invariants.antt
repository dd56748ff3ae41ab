use Rattle.go_sifting.specs.inner.Ends.{AreEnds}
use Rattle.go_sifting.proofs.ends.ends.Given as goal

abbrev pub invariant-loop-place : goal.invariant-loop-place
invariant-loop-place l = AreEnds l.standing l.ranked l.back l.place l.ends.items
