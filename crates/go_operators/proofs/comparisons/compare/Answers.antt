use Rattle.std.proofs.Common.{sym}
use Rattle.go_rules.specs.Scopes.{env_of}
use Rattle.go_rules.specs.Expressions.{IsComparison}
use Rattle.go_operators.proofs.Answers.{same_answer}
use Rattle.go_operators.proofs.Comparing.{compare_equality, compare_order}
use Rattle.go_operators.proofs.comparisons.compare.Goals as goal

pub returns-then-is_equality : goal.returns-then-is_equality
returns-then-is_equality c = same_answer (IsComparison (env_of c.args.context.now.env.now) c.args.op c.args.left.now c.args.right.now) _ _ c.as_truth-answer.ensures (compare_equality (env_of c.args.context.now.env.now) c.args.op c.args.left.now c.args.right.now c.in_ok-equal.equal (sym c.if-are_constant.ensures) (sym c.if-is_equality.ensures) c.in_ok-equal.ensures)

pub returns : goal.returns
returns c = same_answer (IsComparison (env_of c.args.context.now.env.now) c.args.op c.args.left.now c.args.right.now) _ _ c.as_truth-order.ensures (compare_order (env_of c.args.context.now.env.now) c.args.op c.args.left.now c.args.right.now c.in_ok-ordered.ordered (sym c.if-are_constant.ensures) (sym c.if-is_equality.ensures) c.in_ok-ordered.ensures)
