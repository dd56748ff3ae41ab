use Rattle.std.proofs.Common.{take}
use Rattle.go_rules.specs.Scopes.{env_of}
use Rattle.go_calls.specs.inner.Arguments.{UsableEach}
use Rattle.go_calls.proofs.arguments.usable_each.Given as goal

abbrev pub invariant-loop-at : goal.invariant-loop-at
invariant-loop-at l = UsableEach (env_of l.context.env.now) (take l.at l.operands) (take l.at l.terms)
