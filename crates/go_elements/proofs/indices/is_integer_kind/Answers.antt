use Rattle.go_rules.specs.Scopes.{env_of}
use Rattle.go_elements.proofs.IndexValues.{kind_decides, kind_untyped}
use Rattle.go_elements.proofs.indices.is_integer_kind.Goals as goal

pub returns-in-OfTerm : goal.returns-in-OfTerm
returns-in-OfTerm c = kind_decides (env_of c.args.context.now.env.now) c.args.term.now _ c.is_integer.result c.in-OfTerm.is c.is_integer.ensures

pub returns-in-OfKind : goal.returns-in-OfKind
returns-in-OfKind c = kind_untyped (env_of c.args.context.now.env.now) c.args.term.now _ c.in-OfKind.is
