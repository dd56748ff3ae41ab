use Rattle.go_rules.proofs.MethodPlaces.{places_next}
use Rattle.go_rules.proofs.place.note_all.Goals as goal

pub loop-at-preserved : goal.loop-at-preserved
loop-at-preserved c = places_next c.args.methods.now c.loop-at.at c.index-methods-at.result c.loop-at.places c.note.new.places c.loop-at-test.true c.loop-at.invariant c.in_ok-note.ensures
