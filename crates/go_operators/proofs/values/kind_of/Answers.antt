use Rattle.go_rules.specs.Scopes.{env_of}
use Rattle.go_operators.proofs.TypedOperands.{kind_typed, kind_untyped}
use Rattle.go_operators.proofs.values.kind_of.Goals as goal

pub returns-in-Some : goal.returns-in-Some
returns-in-Some c = kind_typed (env_of c.args.context.now.env.now) c.args.term.now _ _ c.in-OfTerm.is c.in-Some.ensures

pub returns-in-OfKind : goal.returns-in-OfKind
returns-in-OfKind c = kind_untyped (env_of c.args.context.now.env.now) c.args.term.now _ c.in-OfKind.is
