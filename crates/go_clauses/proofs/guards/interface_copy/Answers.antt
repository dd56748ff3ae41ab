use Rattle.std.proofs.Common.{sym, subst}
use Rattle.go_model.specs.declared.types.term.Term.{Term}
use Rattle.go_type_terms.specs.Answers.{env_in}
use Rattle.go_clauses.specs.inner.Guards.{IsInterfaceOf}
use Rattle.go_clauses.proofs.guards.interface_copy.Goals as goal

pub returns-in_ok-copy-in-Some : goal.returns-in_ok-copy-in-Some
returns-in_ok-copy-in-Some c = subst (λ (t : Term). IsInterfaceOf (env_in c.args.context.now) c.args.operand.now t) (sym c.in_ok-copy-in-Some.ensures) c.in-Some.ensures
