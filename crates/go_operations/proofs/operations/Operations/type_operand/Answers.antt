use Rattle.go_type_terms.specs.Answers.{env_in}
use Rattle.go_operations.proofs.TypeOperands.{to_type}
use Rattle.go_operations.proofs.operations.Operations.type_operand.Goals as goal

pub returns : goal.returns
returns g c = (to_type (env_in c.args.self.now.typing.context.now) c.args.form.now c.in_ok-term.term c.type_name.result c.in_ok-term.ensures.0 c.type_name.ensures, c.in_ok-term.ensures.1)
