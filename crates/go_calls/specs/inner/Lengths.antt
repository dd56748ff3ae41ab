-- The parts of `len` and `cap`.
use Rattle.std.specs.Prelude.{◌≡◌, ℕ, pos, Bool, true, false, Some}
use Rattle.go_model.specs.constants.Constants.{is_representable}
use Rattle.go_model.specs.declared.constants.value.Basic.TheVariants as basic
use Rattle.go_model.specs.declared.constants.value.Value.TheVariants as value
use Rattle.go_model.specs.declared.types.term.Term.{Term}
use Rattle.go_model.specs.types.Underlying.{under}
use Rattle.go_rules.specs.Environments.{Env}
use Rattle.go_rules.specs.Expressions.{IsArray, IsString, int_constant, is_constant, measures}
use Rattle.go_rules.specs.declared.operand.Mode.{Mode}
use Rattle.go_rules.specs.declared.operand.Operand.{Operand}
use Rattle.go_rules.specs.declared.predeclared.Predeclared.{Predeclared}
use Rattle.go_rules.specs.declared.predeclared.Predeclared.TheVariants as p
use Rattle.go_calls.specs.Builtins.{int_value}

-- the number as a constant of type int
pub data IntWithin (E : Env) (n : ℕ) : Operand → Type 0 where
  int_within : is_representable (value.Int (pos n)) basic.Int E.bits ≡ true → IntWithin E n (int_constant n)

-- the length of an array
pub data MeasuresArray (E : Env) : (loud : Bool) → ℕ → Operand → Type 0 where
  quiet_array : {n : ℕ} {r : Operand} → IntWithin E n r → MeasuresArray E false n r
  loud_array : {n : ℕ} → MeasuresArray E true n int_value

-- the length or capacity of what is no array
pub data MeasuresValue (E : Env) (f : Predeclared) (m : Mode) (t : Term) : Operand → Type 0 where
  value_measured : is_constant m ≡ false → measures f (under E.table t) ≡ true → MeasuresValue E f m t int_value

-- the length or capacity of an operand of this mode and type
pub data MeasuresTyped (E : Env) (f : Predeclared) (loud : Bool) (m : Mode) (t : Term) : Operand → Type 0 where
  typed_array : {pointer : Bool} {n : ℕ} {u : Term} {r : Operand} → IsArray E t pointer n u → MeasuresArray E loud n r → MeasuresTyped E f loud m t r
  typed_other : {r : Operand} → MeasuresValue E f m t r → MeasuresTyped E f loud m t r

-- the length of a constant string
pub data MeasuresString (E : Env) (f : Predeclared) (o : Operand) : Operand → Type 0 where
  constant_string : {n : ℕ} {r : Operand} → f ≡ p.Len → IsString E o (Some n) → IntWithin E n r → MeasuresString E f o r
