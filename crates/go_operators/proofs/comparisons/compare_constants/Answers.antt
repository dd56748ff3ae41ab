use Rattle.go_rules.specs.Scopes.{env_of}
use Rattle.go_operators.specs.inner.Comparisons.{Orders}
use Rattle.go_operators.proofs.Answers.{decided_true, decided_false}
use Rattle.go_operators.proofs.Comparing.{compare_no_order, compare_no_truth, compare_constants}
use Rattle.go_operators.proofs.comparisons.compare_constants.Goals as goal

pub returns-then-not-ordered : goal.returns-then-not-ordered
returns-then-not-ordered c = compare_no_order (env_of c.args.context.now.env.now) c.args.op c.args.left.now c.args.right.now c.requires (decided_false (Orders (env_of c.args.context.now.env.now) c.args.op c.args.left.now c.args.right.now) _ c.if-not-ordered.true c.in_ok-ordered.ensures)

pub returns-in-None : goal.returns-in-None
returns-in-None c = compare_no_truth (env_of c.args.context.now.env.now) c.args.op c.args.left.now c.args.right.now c.requires c.in-None.ensures

pub returns-in-Some : goal.returns-in-Some
returns-in-Some c = compare_constants (env_of c.args.context.now.env.now) c.args.op c.args.left.now c.args.right.now _ c.in-Some.holds (decided_true (Orders (env_of c.args.context.now.env.now) c.args.op c.args.left.now c.args.right.now) _ c.if-not-ordered.false c.in_ok-ordered.ensures) c.in-Some.ensures c.truth.ensures
