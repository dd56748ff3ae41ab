-- Constants among operands, and what becomes of their values.
use Rattle.std.specs.Prelude.{◌≡◌, ℕ, Bool, true, Some}
use Rattle.go_model.specs.constants.Classes.{class_of_basic, is_integer}
use Rattle.go_model.specs.constants.Constants.{binary_value, shift_value}
use Rattle.go_model.specs.declared.constants.value.Basic.{Basic}
use Rattle.go_model.specs.declared.constants.value.BinaryOp.{BinaryOp}
use Rattle.go_model.specs.declared.constants.value.Kind.{Kind}
use Rattle.go_model.specs.declared.constants.value.Value.{Value}
use Rattle.go_model.specs.declared.types.package.ConstTerm.{ConstTerm}
use Rattle.go_model.specs.declared.types.term.Term.{Term, Term-F}
use Rattle.go_model.specs.types.Underlying.{under}
use Rattle.go_rules.specs.Environments.{Env}
use Rattle.go_rules.specs.Operands.{HasKind, IsTyped, constant_of, plain}
use Rattle.go_rules.specs.declared.operand.Operand.{Operand}

-- the operand is a constant of this value
pub data HasValue : Operand → Value → Type 0 where
  has_value : {c : ConstTerm} {v : Value} → HasValue (constant_of c v) v

-- the value of an operator between two constants of a kind
pub data ConstantsCompute (op : BinaryOp) (k : Kind) (bits : ℕ) : Operand → Operand → Value → Type 0 where
  constants_compute : {b c : ConstTerm} {v w z : Value} → binary_value op v w k bits ≡ Some z → ConstantsCompute op k bits (constant_of b v) (constant_of c w) z

-- the result of a shift of a constant by a constant
pub data ConstantShifts (E : Env) (left : Bool) (c : ConstTerm) (v w : Value) : Operand → Type 0 where
  constant_shifts : {k : Kind} {z : Value} → HasKind E c k → shift_value left v w k E.bits ≡ Some z → ConstantShifts E left c v w (constant_of c z)

-- a value of the integer type of an operand
pub data IntegerValue (E : Env) : Operand → Operand → Type 0 where
  integer_value : {o : Operand} {t : Term} {b : Basic} → IsTyped o t → under E.table t ≡ Term-F.Plain b → is_integer (class_of_basic b) ≡ true → IntegerValue E o (plain t)
