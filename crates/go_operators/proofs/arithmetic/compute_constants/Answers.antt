use Rattle.go_operators.specs.inner.Constants.{ConstantsCompute}
use Rattle.go_operators.proofs.Computing.{compute_no_left, compute_no_right, computed_both}
use Rattle.go_operators.proofs.arithmetic.compute_constants.Goals as goal

pub returns-in-None : goal.returns-in-None
returns-in-None c = compute_no_left c.args.op c.args.kind c.args.bits c.args.left.now c.args.right.now c.in-None.ensures

pub returns-in-None-value_in : goal.returns-in-None-value_in
returns-in-None-value_in c = compute_no_right c.args.op c.args.kind c.args.bits c.args.left.now c.args.right.now c.in-None-value_in.ensures

pub returns-in_ok-answer-in-Some-value_in : goal.returns-in_ok-answer-in-Some-value_in
returns-in_ok-answer-in-Some-value_in c = computed_both c.args.op c.args.kind c.args.bits c.args.left.now c.args.right.now _ _ c.in_ok-answer-in-Some-value_in.answer c.in-Some.ensures c.in-Some-value_in.ensures c.in_ok-answer-in-Some-value_in.ensures
