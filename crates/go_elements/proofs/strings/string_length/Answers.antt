use Rattle.go_rules.specs.Scopes.{env_of}
use Rattle.go_elements.proofs.StringLengths.{string_of_text, string_of_no_text, string_of_value, string_of_nothing}
use Rattle.go_elements.proofs.strings.string_length.Goals as goal

pub returns-in-Some-constant_length : goal.returns-in-Some-constant_length
returns-in-Some-constant_length c = string_of_text (env_of c.args.context.now.env.now) c.args.operand.now _ _ _ c.in-Some.ensures c.in-Some-constant_length.ensures

pub returns-in-None : goal.returns-in-None
returns-in-None c = string_of_no_text (env_of c.args.context.now.env.now) c.args.operand.now _ _ c.in-Some.ensures c.in-None.ensures

pub returns-then-is_string_value : goal.returns-then-is_string_value
returns-then-is_string_value c = string_of_value (env_of c.args.context.now.env.now) c.args.operand.now c.if-is_string_value.ensures

pub returns-else-is_string_value : goal.returns-else-is_string_value
returns-else-is_string_value c = string_of_nothing (env_of c.args.context.now.env.now) c.args.operand.now c.in_default.ensures c.if-is_string_value.ensures
