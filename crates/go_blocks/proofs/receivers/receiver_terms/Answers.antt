use Rattle.std.proofs.Common.{Option, subst, sym}
use Rattle.std.specs.Prelude.{IfOk}
use Rattle.go_blocks.proofs.Named.{no_receiver_given}
use Rattle.go_rules.specs.Scopes.{env_of}
use Rattle.go_statement_rules.specs.Functions.{OfReceiver}
use Rattle.go_syntax.specs.declared.types.ParameterDecl.{ParameterDecl}
use Rattle.go_usability.specs.Answers.{Gives}
use Rattle.go_blocks.proofs.receivers.receiver_terms.Goals as goal

pub returns-in-Some : goal.returns-in-Some
returns-in-Some c = subst (λ (z : Option ParameterDecl). IfOk c.declared_terms.result (Gives (OfReceiver (env_of c.args.env.now) z))) (sym c.in-Some.is) c.declared_terms.ensures

pub returns-in-None : goal.returns-in-None
returns-in-None c = no_receiver_given (env_of c.args.env.now) c.args.receiver.now c.in-None.is c.new.result c.new.ensures
