use Rattle.go_settling.proofs.Passing.{attempt_below}
use Rattle.go_settling.proofs.settle.settle_one.Goals as goal

pub returns-in-Ok-clause-below : goal.returns-in-Ok-clause-below
returns-in-Ok-clause-below g c =
    attempt_below (g.G.Giver.setting c.args.giver.now) (g.G.Giver.source c.args.giver.now) (g.G.Giver.entries c.args.giver.now) (g.G.Giver.entries c.settle.new.self) c.args.number c.settle.result c.requires.below c.settle.ensures.attempts

pub returns-in-Err-clause-below : goal.returns-in-Err-clause-below
returns-in-Err-clause-below g c =
    attempt_below (g.G.Giver.setting c.args.giver.now) (g.G.Giver.source c.args.giver.now) (g.G.Giver.entries c.args.giver.now) (g.G.Giver.entries c.settle.new.self) c.args.number c.settle.result c.requires.below c.settle.ensures.attempts
