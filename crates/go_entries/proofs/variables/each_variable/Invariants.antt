use Rattle.std.proofs.Common.{drop}
use Rattle.go_type_terms.specs.Answers.{env_in}
use Rattle.go_entries.specs.inner.Variables.{IsVariable}
use Rattle.go_entries.proofs.Zipped.{Zipped}
use Rattle.go_entries.proofs.variables.each_variable.Given as goal

abbrev pub invariant-loop-operand : goal.invariant-loop-operand
invariant-loop-operand l = Zipped (IsVariable (env_in l.context)) l.operands (drop l.operand-index l.operands) l.variables
