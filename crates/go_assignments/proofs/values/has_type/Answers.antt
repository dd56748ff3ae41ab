use Rattle.go_type_terms.specs.Answers.{env_in}
use Rattle.go_typings.specs.Initializers.{TypeOfValue}
use Rattle.go_assignments.proofs.Decided.{gives_decides}
use Rattle.go_assignments.proofs.values.has_type.Goals as goal

pub returns : goal.returns
returns c = gives_decides (TypeOfValue (env_in c.args.context.now) c.args.operand.now) c.in_ok-term.term c.in_ok-term.ensures c.is_some.result c.is_some.ensures
