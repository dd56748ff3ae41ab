use Rattle.go_tags.proofs.OneCut.{cutting_done}
use Rattle.go_tags.proofs.parts.parts_of.Goals as goal

pub returns-clause-parts : goal.returns-clause-parts
returns-clause-parts c = cutting_done c.args.text.now c.loop-at.parts c.loop-at.at c.loop-at.invariant c.loop-at-test.false
