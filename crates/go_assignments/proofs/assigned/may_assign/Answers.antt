use Rattle.std.proofs.Common.{List, length, subst, sym}
use Rattle.go_operators.proofs.Answers.{decided_false, decided_true}
use Rattle.go_rules.specs.declared.operand.Operand.{Operand}
use Rattle.go_statement_rules.specs.Assignments.{AreAssigned}
use Rattle.go_type_terms.specs.Answers.{env_in}
use Rattle.go_type_terms.proofs.Handed.{told_told}
use Rattle.go_typings.specs.Initializers.{Initialize}
use Rattle.go_assignments.specs.Simple.{MayAssign}
use Rattle.go_assignments.proofs.SideValues.{not_assigned}
use Rattle.go_assignments.proofs.assigned.may_assign.Goals as goal

pub returns-in_err-values : goal.returns-in_err-values
returns-in_err-values c =
    let E = env_in c.args.context.now in
    told_told (Initialize E (length c.args.sides.now) c.args.exprs.now) (λ (u : Unit {0}). MayAssign E c.args.sides.now c.args.exprs.now) c.in_err-values.field-0.0 c.from_residual.result c.from_residual.ensures.1 c.in_err-values.ensures (λ u h. (h.0, h.1))

pub returns-then-not-branch : goal.returns-then-not-branch
returns-then-not-branch c =
    let E = env_in c.args.context.now in
    let none = decided_false (AreAssigned E c.args.sides.now c.items.result.now) _ c.if-not-branch.true c.in_ok-are_assigned.ensures in
    λ u h. not_assigned E c.in_ok-values.ensures (λ a. none (subst (AreAssigned E c.args.sides.now) (sym c.items.ensures) a)) h.0 h.1 h.2

pub returns : goal.returns
returns c =
    let E = env_in c.args.context.now in
    (c.in_ok-values.values, c.in_ok-values.ensures, subst (λ (os : List Operand). AreAssigned E c.args.sides.now os) c.items.ensures (decided_true (AreAssigned E c.args.sides.now c.items.result.now) _ c.if-not-branch.false c.in_ok-are_assigned.ensures))
