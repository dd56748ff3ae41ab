use Rattle.std.proofs.Common.{take}
use Rattle.go_base.specs.Lists.{Each}
use Rattle.go_rules.specs.Scopes.{env_of}
use Rattle.go_rules.specs.Usability.{UsableAs}
use Rattle.go_calls.proofs.arguments.usable_all.Given as goal

abbrev pub invariant-loop-operand : goal.invariant-loop-operand
invariant-loop-operand l = Each (λ o. UsableAs (env_of l.context.env.now) o l.term) (take l.operand-index l.operands)
