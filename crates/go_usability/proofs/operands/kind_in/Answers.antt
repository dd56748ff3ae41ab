use Rattle.std.proofs.Common.{sym}
use Rattle.go_model.specs.declared.types.term.Term.{out-Term}
use Rattle.go_rules.specs.Scopes.{env_of}
use Rattle.go_usability.proofs.Using.{kind_typed, kind_loose}
use Rattle.go_usability.proofs.operands.kind_in.Goals as goal

pub returns-in-Some : goal.returns-in-Some
returns-in-Some c = kind_typed (env_of c.args.context.now.env.now) c.args.of.now c.in-OfTerm.term (out-Term c.under.result.now) c.in-Some.basic c.in-OfTerm.is c.under.ensures (sym c.in-Some.ensures)

pub returns-in-OfKind : goal.returns-in-OfKind
returns-in-OfKind c = kind_loose (env_of c.args.context.now.env.now) c.args.of.now c.in-OfKind.kind c.in-OfKind.is
