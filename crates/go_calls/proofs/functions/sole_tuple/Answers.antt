use Rattle.go_calls.proofs.Calling.{sole_results, no_sole_results}
use Rattle.go_calls.proofs.functions.sole_tuple.Goals as goal

pub returns-in-Some-tuple_in : goal.returns-in-Some-tuple_in
returns-in-Some-tuple_in c = sole_results _ c.args.operands.now c.args.dots _ c.if-dots.false c.in-Some.ensures c.in-Some-tuple_in.ensures

pub returns-in-None-tuple_in : goal.returns-in-None-tuple_in
returns-in-None-tuple_in c = no_sole_results _ c.args.operands.now c.args.dots c.in-Some.ensures c.in-None-tuple_in.ensures
