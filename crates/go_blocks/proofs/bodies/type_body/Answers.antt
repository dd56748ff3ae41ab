use Rattle.go_blocks.proofs.EnteredBodies.{none_judged}
use Rattle.go_local_scopes.specs.States.{around}
use Rattle.go_blocks.proofs.bodies.type_body.Goals as goal

pub returns-in-Some-clause-judged : goal.returns-in-Some-clause-judged
returns-in-Some-clause-judged c = c.written_body.ensures.judged c.in-Some.is

pub returns-in-None-clause-judged : goal.returns-in-None-clause-judged
returns-in-None-clause-judged c = none_judged (around c.args.env.now) c.args.blocks.now.list.now c.args.func.now c.in-None.is c.tested.result c.tested.ensures
