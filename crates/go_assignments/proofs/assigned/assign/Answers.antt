use Rattle.go_operators.proofs.Answers.{decided_false, decided_true}
use Rattle.go_type_terms.specs.Answers.{env_in}
use Rattle.go_type_terms.proofs.Handed.{told_told}
use Rattle.go_assignments.specs.Simple.{AreMet, Assigns, MayAssign}
use Rattle.go_assignments.proofs.assigned.assign.Goals as goal

pub returns-in_err-may_assign : goal.returns-in_err-may_assign
returns-in_err-may_assign c =
    let E = env_in c.args.context.now in
    told_told (λ (u : Unit {0}). MayAssign E c.args.sides.now c.args.exprs.now) (λ (u : Unit {0}). Assigns E c.args.sides.now c.args.exprs.now) c.in_err-may_assign.field-0.0 c.from_residual.result c.from_residual.ensures.1 c.in_err-may_assign.ensures (λ u h. (u, h.0))

pub returns-then-not-branch : goal.returns-then-not-branch
returns-then-not-branch c = λ u h. decided_false (AreMet (env_in c.args.context.now) c.args.sides.now) _ c.if-not-branch.true c.in_ok-are_met.ensures h.1

pub returns-then-not-branch-2 : goal.returns-then-not-branch-2
returns-then-not-branch-2 c = λ u h. decided_false (AreMet (env_in c.args.context.now) c.args.exprs.now) _ c.if-not-branch-2.true c.in_ok-are_met-2.ensures h.2

pub returns : goal.returns
returns c =
    let E = env_in c.args.context.now in
    (c.in_ok-may_assign.ensures, decided_true (AreMet E c.args.sides.now) _ c.if-not-branch.false c.in_ok-are_met.ensures, decided_true (AreMet E c.args.exprs.now) _ c.if-not-branch-2.false c.in_ok-are_met-2.ensures)
