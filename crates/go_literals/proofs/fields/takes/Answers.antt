use Rattle.go_operations.specs.go_type_terms.Answers.{env_in}
use Rattle.go_literals.proofs.KeyedFields.{takes_at, takes_next}
use Rattle.go_literals.proofs.fields.takes.Goals as goal

pub returns-then-branch : goal.returns-then-branch
returns-then-branch c = takes_at (env_in c.args.context.now) c.args.fields.now c.loop-field.field-index c.field-item.result c.args.sel.now c.args.operand.now c.in_ok-takes_here.field-0 c.loop-field-test.true c.field-item.is c.if-branch.true c.in_ok-takes_here.ensures

pub loop-field-preserved : goal.loop-field-preserved
loop-field-preserved c = takes_next (env_in c.args.context.now) c.args.fields.now c.loop-field.field-index c.field-item.result c.args.sel.now c.args.operand.now c.in_ok-takes_here.field-0 c.loop-field-test.true c.field-item.is c.if-branch.false c.in_ok-takes_here.ensures c.loop-field.invariant
