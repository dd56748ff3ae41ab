use Rattle.std.proofs.Common.{take}
use Rattle.go_rules.specs.Scopes.{env_of}
use Rattle.go_usability.specs.inner.Levels.{ToldEach}
use Rattle.go_usability.proofs.told.is_told_each.Given as goal

abbrev pub invariant-loop-method : goal.invariant-loop-method
invariant-loop-method l = ToldEach (env_of l.context.env.now) (take l.method-index l.methods) l.term
