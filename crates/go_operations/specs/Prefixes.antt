-- Operators before an operand that receive.
-- Public source: Go specification, "Receive operator".
use Rattle.std.specs.Prelude.{Bool, true, false}
use Rattle.go_base.specs.declared.operator.PrefixOperator.{PrefixOperator}
use Rattle.go_base.specs.declared.operator.PrefixOperator.TheVariants as prefix

-- the operator `<-`
abbrev pub is_receive_operator : PrefixOperator → Bool
is_receive_operator prefix.Receive = true
is_receive_operator op = false
