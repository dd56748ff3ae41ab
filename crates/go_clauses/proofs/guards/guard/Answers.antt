use Rattle.go_rules.specs.Asks.{HasOperand}
use Rattle.go_type_terms.specs.Answers.{env_in}
use Rattle.go_type_terms.proofs.Handed.{told_told}
use Rattle.go_type_terms.proofs.NamedTypes.{same_tells}
use Rattle.go_clauses.specs.Clauses.{IsGuardOf}
use Rattle.go_clauses.specs.inner.Guards.{IsInterfaceOf}
use Rattle.go_clauses.proofs.Guarding.{guard_in, guard_to}
use Rattle.go_clauses.proofs.guards.guard.Goals as goal

pub returns-in_err-value : goal.returns-in_err-value
returns-in_err-value c =
    let E = env_in c.args.context.now in
    told_told (HasOperand E c.args.expr.now) (IsGuardOf E c.args.expr.now) c.in_err-value.field-0.0 c.from_residual.result c.from_residual.ensures.1 c.in_err-value.ensures (λ t h. (h.0, h.2))

pub returns : goal.returns
returns c =
    let E = env_in c.args.context.now in
    same_tells (IsInterfaceOf E c.in_ok-value.value) (IsGuardOf E c.args.expr.now) c.interface_copy.result (guard_to E c.in_ok-value.ensures) (guard_in E c.in_ok-value.ensures) c.interface_copy.ensures
