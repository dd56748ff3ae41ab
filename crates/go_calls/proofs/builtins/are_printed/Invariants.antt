use Rattle.std.proofs.Common.{take}
use Rattle.go_base.specs.Lists.{Each}
use Rattle.go_rules.specs.Expressions.{IsPrinted}
use Rattle.go_rules.specs.Scopes.{env_of}
use Rattle.go_calls.proofs.builtins.are_printed.Given as goal

abbrev pub invariant-loop-operand : goal.invariant-loop-operand
invariant-loop-operand l = Each (IsPrinted (env_of l.context.env.now)) (take l.operand-index l.operands)
