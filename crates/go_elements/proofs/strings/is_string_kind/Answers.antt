use Rattle.go_rules.specs.Scopes.{env_of}
use Rattle.go_elements.proofs.StringLengths.{string_decides, string_of_kind}
use Rattle.go_elements.proofs.strings.is_string_kind.Goals as goal

pub returns-in-OfTerm : goal.returns-in-OfTerm
returns-in-OfTerm c = string_decides (env_of c.args.context.now.env.now) c.args.term.now _ c.is_string.result c.in-OfTerm.is c.is_string.ensures

pub returns-in-OfKind : goal.returns-in-OfKind
returns-in-OfKind c = string_of_kind (env_of c.args.context.now.env.now) c.args.term.now _ c.in-OfKind.is
