use Rattle.std.proofs.Common.{◌≡◌, ◌++◌}
use Rattle.go_type_terms.proofs.lists.push_all.Given as goal

abbrev pub invariant-loop-item : goal.invariant-loop-item
invariant-loop-item g l = l.items ≡ l.initial.items ++ l.yielded
