use Rattle.go_rules.specs.Scopes.{env_of}
use Rattle.go_elements.proofs.StringLengths.{constant_length_kind, constant_length_text}
use Rattle.go_elements.proofs.strings.constant_length.Goals as goal

pub returns-then-not-is_string_kind : goal.returns-then-not-is_string_kind
returns-then-not-is_string_kind c = constant_length_kind (env_of c.args.context.now.env.now) c.args.term.now c.args.value.now c.if-not-is_string_kind.ensures

pub returns-in-Str : goal.returns-in-Str
returns-in-Str c = constant_length_text (env_of c.args.context.now.env.now) c.args.term.now c.args.value.now _ c.bytes.result.now c.if-not-is_string_kind.ensures c.in-Str.is c.bytes.ensures
