use Rattle.std.proofs.Common.{◌≡◌, ◌++◌}
use Rattle.go_type_terms.proofs.gathered.listed.Given as goal

abbrev pub invariant-loop-method : goal.invariant-loop-method
invariant-loop-method l = l.methods ++ l.method-iterator ≡ l.initial.methods ++ l.initial.method-iterator
