use Rattle.go_rules.specs.Scopes.{env_of}
use Rattle.go_elements.proofs.IndexValues.{constant_index_kind, constant_index_gives}
use Rattle.go_elements.proofs.indices.constant_index.Goals as goal

pub returns-then-not-is_integer_kind : goal.returns-then-not-is_integer_kind
returns-then-not-is_integer_kind c = constant_index_kind (env_of c.args.context.now.env.now) c.args.term.now c.args.value.now c.if-not-is_integer_kind.ensures

pub returns : goal.returns
returns c = constant_index_gives (env_of c.args.context.now.env.now) c.args.term.now c.args.value.now c.int_value.result c.if-not-is_integer_kind.ensures c.int_value.ensures
