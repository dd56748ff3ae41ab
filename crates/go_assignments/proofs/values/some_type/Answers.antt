use Rattle.go_asks.proofs.EmbeddedTypes.{none_told}
use Rattle.go_type_terms.specs.Answers.{env_in}
use Rattle.go_typings.specs.Initializers.{TypeOfValue}
use Rattle.go_assignments.proofs.values.some_type.Goals as goal

pub returns-in-Err-Untyped : goal.returns-in-Err-Untyped
returns-in-Err-Untyped c = none_told (TypeOfValue (env_in c.args.context.now) c.args.operand.now) c.in-Err-Untyped.field-0 c.in-Err-Untyped.field-0-is c.in-Err-Untyped.ensures
