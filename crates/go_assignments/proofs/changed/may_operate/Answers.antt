use Rattle.go_type_terms.specs.Answers.{env_in}
use Rattle.go_assignments.proofs.Changes.{operated}
use Rattle.go_assignments.proofs.changed.may_operate.Goals as goal

pub returns-in-Some : goal.returns-in-Some
returns-in-Some c = operated (env_in c.args.context.now) c.args.op c.args.side.now c.args.right.now c.in-Some.term.now c.result_fits.result c.in-Some.ensures c.result_fits.ensures

pub returns-in-None : goal.returns-in-None
returns-in-None c = λ h. c.in-None.ensures h.0 h.2
