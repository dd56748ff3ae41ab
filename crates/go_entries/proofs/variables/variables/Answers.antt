use Rattle.std.proofs.Common.{ap, length}
use Rattle.go_type_terms.specs.Answers.{env_in}
use Rattle.go_entries.proofs.VariableSpecs.{told_by_type, told_by_values}
use Rattle.go_entries.proofs.variables.variables.Goals as goal

pub returns-in-Some : goal.returns-in-Some
returns-in-Some c = told_by_type (env_in c.args.context.now) c.args.spec.now (length c.items-count.result.now) (ap length c.items-count.ensures) c.typed_variables.result c.in-Some.form c.in-Some.is c.typed_variables.ensures

pub returns-in-None : goal.returns-in-None
returns-in-None c = told_by_values (env_in c.args.context.now) c.args.spec.now (length c.items-count.result.now) (ap length c.items-count.ensures) c.untyped_variables.result c.items.result.now c.items.ensures c.in-None.is c.untyped_variables.ensures
