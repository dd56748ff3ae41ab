use Rattle.std.proofs.Common.{take}
use Rattle.go_rules.specs.Scopes.{env_of}
use Rattle.go_usability.specs.inner.Methods.{HoldsEach}
use Rattle.go_usability.proofs.implementing.holds_each.Given as goal

abbrev pub invariant-loop-method : goal.invariant-loop-method
invariant-loop-method l = HoldsEach (env_of l.context.env.now) l.term (take l.method-index l.methods)
