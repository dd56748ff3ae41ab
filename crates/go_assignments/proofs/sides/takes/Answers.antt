use Rattle.go_operators.proofs.Answers.{decided_false, decided_true}
use Rattle.go_type_terms.specs.Answers.{env_in}
use Rattle.go_assignments.specs.inner.Sides.{Takes, takes_blank, takes_operand, TakesBlank, TakesOperand}
use Rattle.go_assignments.proofs.Decided.{decided_so}
use Rattle.go_assignments.proofs.SideValues.{no_blank}
use Rattle.go_assignments.proofs.sides.takes.Goals as goal

pub returns-then-branch : goal.returns-then-branch
returns-then-branch c = takes_blank (decided_true (TakesBlank (env_in c.args.context.now) c.args.side.now c.args.value.now) _ c.if-branch.true c.in_ok-takes_blank.ensures)

pub returns : goal.returns
returns c =
    let E = env_in c.args.context.now in
    decided_so (TakesOperand E c.args.side.now c.args.value.now) (Takes E c.args.side.now c.args.value.now) c.in_ok-takes.takes (λ h. takes_operand h) (no_blank E (decided_false (TakesBlank E c.args.side.now c.args.value.now) _ c.if-branch.false c.in_ok-takes_blank.ensures)) c.in_ok-takes.ensures
