use Rattle.go_rules.specs.Scopes.{env_of}
use Rattle.go_calls.proofs.Building.{kind_printed, term_printed}
use Rattle.go_calls.proofs.builtins.is_constant_printed.Goals as goal

pub returns-in-OfKind : goal.returns-in-OfKind
returns-in-OfKind c = kind_printed (env_of c.args.context.now.env.now) c.args.operand.now c.args.of.now c.args.value.now _ c.default_holds.result c.requires.constant c.in-OfKind.is c.default_holds.ensures

pub returns-in-OfTerm : goal.returns-in-OfTerm
returns-in-OfTerm c = term_printed (env_of c.args.context.now.env.now) c.args.operand.now c.args.of.now c.args.value.now _ c.requires.constant c.in-OfTerm.is c.requires.untyped
