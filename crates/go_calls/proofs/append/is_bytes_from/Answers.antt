use Rattle.go_rules.specs.Scopes.{env_of}
use Rattle.go_calls.proofs.Appending.{bytes_from, no_bytes, no_string}
use Rattle.go_calls.proofs.append.is_bytes_from.Goals as goal

pub returns-then-not-is_byte : goal.returns-then-not-is_byte
returns-then-not-is_byte c = no_bytes (env_of c.args.context.now.env.now) c.args.element.now c.args.operand.now c.if-not-is_byte.ensures

pub returns-in-Some : goal.returns-in-Some
returns-in-Some c = bytes_from (env_of c.args.context.now.env.now) c.args.element.now c.args.operand.now _ c.if-not-is_byte.ensures c.in-Some.ensures

pub returns-in-None : goal.returns-in-None
returns-in-None c = no_string (env_of c.args.context.now.env.now) c.args.element.now c.args.operand.now c.in-None.ensures
