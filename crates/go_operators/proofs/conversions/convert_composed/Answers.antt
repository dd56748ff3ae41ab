use Rattle.go_rules.specs.Scopes.{env_of}
use Rattle.go_operators.proofs.Converting.{convert_typed, convert_untyped, convert_not_held}
use Rattle.go_operators.proofs.conversions.convert_composed.Goals as goal

pub returns-in_ok-answer-in-OfTerm : goal.returns-in_ok-answer-in-OfTerm
returns-in_ok-answer-in-OfTerm c = convert_typed (env_of c.args.context.now.env.now) c.args.of.now _ c.args.to.now c.args.value.now c.in_ok-answer-in-OfTerm.answer c.in-OfTerm.is c.requires c.in_ok-answer-in-OfTerm.ensures

pub returns-then-not-default_holds : goal.returns-then-not-default_holds
returns-then-not-default_holds c = convert_not_held (env_of c.args.context.now.env.now) c.args.of.now _ c.args.to.now c.args.value.now c.in-OfKind.is c.requires c.if-not-default_holds.ensures

pub returns-in_ok-loose-in-OfKind : goal.returns-in_ok-loose-in-OfKind
returns-in_ok-loose-in-OfKind c = convert_untyped (env_of c.args.context.now.env.now) c.args.of.now _ c.args.to.now c.args.value.now c.in_ok-loose-in-OfKind.loose c.in-OfKind.is c.requires c.if-not-default_holds.ensures c.in_ok-loose-in-OfKind.ensures
