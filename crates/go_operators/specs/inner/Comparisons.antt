-- The parts of a comparison.
use Rattle.std.specs.Prelude.{◌≡◌, Bool, true, Some}
use Rattle.go_base.specs.declared.operator.CompareOp.{CompareOp}
use Rattle.go_model.specs.constants.Classes.{class_of}
use Rattle.go_model.specs.constants.Constants.{comparison}
use Rattle.go_model.specs.constants.Operators.{comparison_applies}
use Rattle.go_model.specs.declared.constants.value.Kind.{Kind}
use Rattle.go_model.specs.declared.constants.value.Untyped.{Untyped}
use Rattle.go_model.specs.declared.constants.value.Value.{Value}
use Rattle.go_model.specs.declared.types.package.ConstTerm.{ConstTerm}
use Rattle.go_model.specs.declared.types.package.ConstTerm.TheVariants as constant
use Rattle.go_model.specs.declared.types.term.Term.{Term}
use Rattle.go_rules.specs.Environments.{Env}
use Rattle.go_rules.specs.Operands.{HasKind, IsUntyped, constant_of, nil}
use Rattle.go_rules.specs.Usability.{Compares, Match, UsableAs}
use Rattle.go_rules.specs.declared.operand.Operand.{Operand}

-- two operands match, of a kind that has the comparison
pub data Orders (E : Env) (op : CompareOp) (left right : Operand) : Type 0 where
  orders : {d : ConstTerm} {k : Kind} → Match E left right d → HasKind E d k → comparison_applies op (class_of k) ≡ true → Orders E op left right

-- the truth of a comparison of two constants
pub data ConstantsCompare (op : CompareOp) : Operand → Operand → Bool → Type 0 where
  constants_compare : {b c : ConstTerm} {v w : Value} {truth : Bool} → comparison op v w ≡ Some truth → ConstantsCompare op (constant_of b v) (constant_of c w) truth

-- an untyped operand may be compared with a value of the type
pub data EquatesType (E : Env) : Operand → Term → Type 0 where
  equates_untyped : {o : Operand} {k : Untyped} {t : Term} → IsUntyped o k → UsableAs E o t → Compares E t → EquatesType E o t
  equates_nil : {t : Term} → UsableAs E nil t → EquatesType E nil t

-- two untyped operands match
pub data EquatesKinds (E : Env) (left right : Operand) : Type 0 where
  equates_both : {k : Untyped} → Match E left right (constant.OfKind k) → EquatesKinds E left right
