use Rattle.go_assignments.proofs.Decided.{decided_so}
use Rattle.go_type_terms.specs.Answers.{env_in}
use Rattle.go_assignments.specs.inner.Sides.{HasType, TakesBlank}
use Rattle.go_assignments.proofs.sides.takes_blank.Goals as goal

pub returns-then-not-is_blank_side : goal.returns-then-not-is_blank_side
returns-then-not-is_blank_side c = λ h. c.if-not-is_blank_side.ensures h.0

pub returns : goal.returns
returns c =
    let E = env_in c.args.context.now in
    decided_so (HasType E c.args.value.now) (TakesBlank E c.args.side.now c.args.value.now) c.in_ok-typed.typed (λ h. (c.if-not-is_blank_side.ensures, h)) (λ h. h.1) c.in_ok-typed.ensures
