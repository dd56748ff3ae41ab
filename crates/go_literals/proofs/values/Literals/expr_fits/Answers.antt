use Rattle.go_rules.specs.Usability.{UsableAs}
use Rattle.go_operations.specs.go_type_terms.Answers.{env_in}
use Rattle.go_elements.proofs.go_operators_proofs.Answers.{decided_false}
use Rattle.go_literals.proofs.ElementValues.{no_expr_fits}
use Rattle.go_literals.proofs.values.Literals.expr_fits.Goals as goal

pub returns-then-not-branch : goal.returns-then-not-branch
returns-then-not-branch g c =
    let E = env_in c.args.self.now.operations.typing.context.now in
    no_expr_fits E c.args.term.now c.args.expr.now c.in_ok-operand.operand c.in_ok-operand.ensures.0 (decided_false (UsableAs E c.in_ok-operand.operand c.args.term.now) c.in_ok-usable.field-0 c.if-not-branch.true c.in_ok-usable.ensures)
