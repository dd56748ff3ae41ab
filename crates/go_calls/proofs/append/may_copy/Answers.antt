use Rattle.go_calls.proofs.Appending.{decide}
use Rattle.go_rules.specs.Scopes.{env_of}
use Rattle.go_calls.specs.inner.Appended.{copy_bytes}
use Rattle.go_calls.proofs.Appending.{copy_no_typed, copy_not_slice, copy_decides}
use Rattle.go_calls.proofs.append.may_copy.Goals as goal

pub returns-then-is_bytes_from : goal.returns-then-is_bytes_from
returns-then-is_bytes_from c = copy_bytes c.if-is_bytes_from.ensures

pub returns-in-None : goal.returns-in-None
returns-in-None c = copy_no_typed (env_of c.args.context.now.env.now) c.args.element.now c.args.operand.now c.if-is_bytes_from.ensures c.in-None.ensures

pub returns-in-Some-slice_under : goal.returns-in-Some-slice_under
returns-in-Some-slice_under c = copy_decides (env_of c.args.context.now.env.now) c.args.element.now c.args.operand.now _ _ c.identical.result c.if-is_bytes_from.ensures c.in-Some.ensures c.in-Some-slice_under.ensures (decide _ c.identical.result c.identical.ensures)

pub returns-in-None-slice_under : goal.returns-in-None-slice_under
returns-in-None-slice_under c = copy_not_slice (env_of c.args.context.now.env.now) c.args.element.now c.args.operand.now _ c.if-is_bytes_from.ensures c.in-Some.ensures c.in-None-slice_under.ensures
