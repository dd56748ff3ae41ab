use Rattle.std.proofs.Common.{◌≡◌, take}
use Rattle.go_model.proofs.types.copy.copy_declared.Given as goal

abbrev pub invariant-loop-method : goal.invariant-loop-method
invariant-loop-method l = l.copied ≡ take l.method-index l.methods
