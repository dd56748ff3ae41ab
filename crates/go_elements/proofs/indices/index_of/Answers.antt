use Rattle.go_rules.specs.Scopes.{env_of}
use Rattle.go_elements.proofs.IndexValues.{index_of_number, index_of_no_number, index_of_value, index_of_nothing}
use Rattle.go_elements.proofs.indices.index_of.Goals as goal

pub returns-in-Some-constant_index : goal.returns-in-Some-constant_index
returns-in-Some-constant_index c = index_of_number (env_of c.args.context.now.env.now) c.args.operand.now _ _ _ c.in-Some.ensures c.in-Some-constant_index.ensures

pub returns-in-None : goal.returns-in-None
returns-in-None c = index_of_no_number (env_of c.args.context.now.env.now) c.args.operand.now _ _ c.in-Some.ensures c.in-None.ensures

pub returns-then-is_integer_value : goal.returns-then-is_integer_value
returns-then-is_integer_value c = index_of_value (env_of c.args.context.now.env.now) c.args.operand.now c.if-is_integer_value.ensures

pub returns-else-is_integer_value : goal.returns-else-is_integer_value
returns-else-is_integer_value c = index_of_nothing (env_of c.args.context.now.env.now) c.args.operand.now c.in_default.ensures c.if-is_integer_value.ensures
