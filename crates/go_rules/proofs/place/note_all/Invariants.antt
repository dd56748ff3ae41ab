use Rattle.std.proofs.Common.{take}
use Rattle.go_rules.specs.inner.Places.{ArePlaces}
use Rattle.go_rules.proofs.place.note_all.Given as goal

abbrev pub invariant-loop-at : goal.invariant-loop-at
invariant-loop-at l = ArePlaces (take l.at l.methods) l.places
