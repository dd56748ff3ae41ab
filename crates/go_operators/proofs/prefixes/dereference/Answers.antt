use Rattle.go_rules.specs.Scopes.{env_of}
use Rattle.go_operators.proofs.Changing.{dereference_nothing, dereference_no_pointer, dereference_type, dereference_pointer}
use Rattle.go_operators.proofs.prefixes.dereference.Goals as goal

pub returns-in-Some : goal.returns-in-Some
returns-in-Some c = dereference_type (env_of c.args.context.now.env.now) c.args.operand.now _ _ _ c.in-Some.ensures c.in_ok-pointer.ensures c.type_name.ensures

pub returns-in-None : goal.returns-in-None
returns-in-None c = dereference_nothing (env_of c.args.context.now.env.now) c.args.operand.now c.in_default.ensures c.in-None.ensures

pub returns-in_ok-element-in-Some-pointer_under : goal.returns-in_ok-element-in-Some-pointer_under
returns-in_ok-element-in-Some-pointer_under c = dereference_pointer (env_of c.args.context.now.env.now) c.args.operand.now _ _ _ c.in-Some-type_of.ensures c.in-Some-pointer_under.ensures c.in_ok-element-in-Some-pointer_under.ensures

pub returns-in-None-pointer_under : goal.returns-in-None-pointer_under
returns-in-None-pointer_under c = dereference_no_pointer (env_of c.args.context.now.env.now) c.args.operand.now _ c.in_default.ensures c.in-Some-type_of.ensures c.in-None-pointer_under.ensures
