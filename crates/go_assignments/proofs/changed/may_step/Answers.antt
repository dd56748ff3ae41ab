use Rattle.go_type_terms.specs.Answers.{env_in}
use Rattle.go_assignments.proofs.Changes.{stepped}
use Rattle.go_assignments.proofs.changed.may_step.Goals as goal

pub returns-in-Some : goal.returns-in-Some
returns-in-Some c = stepped (env_in c.args.context.now) c.args.op c.args.side.now c.in-Some.term.now c.step_fits.result c.in-Some.ensures c.step_fits.ensures

pub returns-in-None : goal.returns-in-None
returns-in-None c = λ h. c.in-None.ensures h.0 h.2
