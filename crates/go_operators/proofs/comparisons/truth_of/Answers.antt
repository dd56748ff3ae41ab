use Rattle.go_operators.proofs.Comparing.{truth_no_left, truth_no_right, truth_of_both}
use Rattle.go_operators.proofs.comparisons.truth_of.Goals as goal

pub returns-in-None : goal.returns-in-None
returns-in-None c = truth_no_left c.args.op c.args.left.now c.args.right.now c.in-None.ensures

pub returns-in-None-value_in : goal.returns-in-None-value_in
returns-in-None-value_in c = truth_no_right c.args.op c.args.left.now c.args.right.now c.in-None-value_in.ensures

pub returns-in-Some-value_in : goal.returns-in-Some-value_in
returns-in-Some-value_in c = truth_of_both c.args.op c.args.left.now c.args.right.now _ _ c.compare_values.result c.in-Some.ensures c.in-Some-value_in.ensures c.compare_values.ensures
