use Rattle.std.proofs.Common.{subst, sym}
use Rattle.go_model.specs.declared.constants.value.BinaryOp.{BinaryOp}
use Rattle.go_operators.proofs.Answers.{found_none, found_some}
use Rattle.go_rules.specs.Expressions.{Computes}
use Rattle.go_rules.specs.declared.operand.Operand.{Operand}
use Rattle.go_statement_rules.specs.Assignments.{one, step_operator}
use Rattle.go_type_terms.specs.Answers.{env_in}
use Rattle.go_assignments.proofs.Changes.{step_decided}
use Rattle.go_assignments.proofs.changed.step_fits.Goals as goal

pub returns-in-Some : goal.returns-in-Some
returns-in-Some c =
    let E = env_in c.args.context.now in
    let l = c.args.side.now in
    let v = c.in-Some.value in
    let made : Computes E c.step_operator.result l c.one-unit.result v = found_some (Computes E c.step_operator.result l c.one-unit.result) _ v c.in-Some.is c.in_ok-value.ensures in
    step_decided E c.args.op l v c.args.term.now c.is_usable.result
    (subst (λ (z : BinaryOp). Computes E z l one v) c.step_operator.ensures (subst (λ (z : Operand). Computes E c.step_operator.result l z v) c.one-unit.ensures made)) c.is_usable.ensures

pub returns : goal.returns
returns c =
    let E = env_in c.args.context.now in
    let l = c.args.side.now in
    let none = found_none (Computes E c.step_operator.result l c.one-unit.result) _ c.in-None.is c.in_ok-value.ensures in
    λ h. none h.0 (subst (λ (z : BinaryOp). Computes E z l c.one-unit.result h.0) (sym c.step_operator.ensures) (subst (λ (z : Operand). Computes E (step_operator c.args.op) l z h.0) (sym c.one-unit.ensures) h.1))
