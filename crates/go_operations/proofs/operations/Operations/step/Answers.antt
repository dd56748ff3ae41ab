use Rattle.go_type_terms.specs.Answers.{env_in}
use Rattle.go_operations.proofs.Chaining.{no_step_of}
use Rattle.go_operations.proofs.operations.Operations.step.Goals as goal

pub returns : goal.returns
returns g c = no_step_of (env_in c.args.self.now.typing.context.now) c.args.operator c.in-Some.operator c.in-Some.is c.args.left.now c.args.other.now c.in_ok-right.right c.in_ok-right.ensures.0 c.in_ok-operand.field-0 c.in-None-2.is c.in_ok-operand.ensures
