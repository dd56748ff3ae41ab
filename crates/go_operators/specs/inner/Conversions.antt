-- The parts of a conversion.
use Rattle.std.specs.Prelude.{◌≡◌, ℤ, Some}
use Rattle.go_model.specs.constants.Constants.{converted}
use Rattle.go_model.specs.declared.constants.value.Basic.{Basic}
use Rattle.go_model.specs.declared.constants.value.Kind.{Kind}
use Rattle.go_model.specs.declared.constants.value.Value.{Value}
use Rattle.go_model.specs.declared.constants.value.Value.TheVariants as value
use Rattle.go_model.specs.declared.types.package.ConstTerm.{ConstTerm}
use Rattle.go_model.specs.declared.types.package.ConstTerm.TheVariants as constant
use Rattle.go_model.specs.declared.types.term.Term.{Term}
use Rattle.go_rules.specs.Environments.{Env}
use Rattle.go_rules.specs.Operands.{HasKind, constant_of, plain}
use Rattle.go_rules.specs.Usability.{Convertible}
use Rattle.go_rules.specs.declared.operand.Operand.{Operand}

-- a value of a type that is convertible to another
pub data ConvertsType (E : Env) (from to : Term) : Operand → Type 0 where
  converts_type : Convertible E from to → ConvertsType E from to (plain to)

-- a whole number as a value of a type of inexact numbers
pub data ConvertsInexact : Value → Term → Operand → Type 0 where
  converts_number : {x : ℤ} {to : Term} → ConvertsInexact (value.Int x) to (plain to)

-- a constant as one of a type with this basic type underneath
pub data ConvertsExact (E : Env) (c : ConstTerm) (v : Value) (to : Term) (b : Basic) : Operand → Type 0 where
  converts_exact : {k : Kind} {w : Value} → HasKind E c k → converted v k b E.bits ≡ Some w → ConvertsExact E c v to b (constant_of (constant.OfTerm to) w)
