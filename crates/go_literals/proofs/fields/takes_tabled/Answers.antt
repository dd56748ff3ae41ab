use Rattle.go_operations.specs.go_type_terms.Answers.{env_in}
use Rattle.go_literals.proofs.FieldTables.{tabled_none, tabled_some}
use Rattle.go_literals.proofs.fields.takes_tabled.Goals as goal

pub returns-in-None : goal.returns-in-None
returns-in-None c = tabled_none (env_in c.args.context.now) c.args.fields.now c.args.table.now c.args.sel.now c.args.operand.now c.requires c.in-None.ensures

pub returns-then-branch : goal.returns-then-branch
returns-then-branch c = tabled_some (env_in c.args.context.now) c.args.fields.now c.args.table.now c.args.sel.now c.args.operand.now c.requires c.in-Some.field.now c.in_ok-takes_here.field-0 c.in-Some.ensures c.if-branch.true c.in_ok-takes_here.ensures
