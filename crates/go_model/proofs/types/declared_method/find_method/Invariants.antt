use Rattle.std.proofs.Common.{◌-◌}
use Rattle.go_model.proofs.MethodSearch.{Narrowed}
use Rattle.go_model.proofs.types.declared_method.find_method.Given as goal

abbrev pub invariant-loop-low : goal.invariant-loop-low
invariant-loop-low l = Narrowed l.methods l.sel l.low l.high

abbrev pub decreases-loop-low : goal.decreases-loop-low
decreases-loop-low l = l.high - l.low
