use Rattle.go_type_terms.specs.Answers.{env_in}
use Rattle.go_entries.proofs.VariableSpecs.{told_untyped}
use Rattle.go_entries.proofs.variables.untyped_variables.Goals as goal

pub returns : goal.returns
returns c = told_untyped (env_in c.args.context.now) c.args.count c.args.values.now c.in_ok-operands.operands c.in_ok-operands.ensures c.items.result.now c.each_variable.result c.items.ensures c.each_variable.ensures
