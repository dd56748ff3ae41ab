-- Which operators a class of kinds has.
-- Public source: Go specification, "Arithmetic operators", "Comparison operators" and "Logical operators".
use Rattle.std.specs.Prelude.{Bool, true, ◌||◌}
use Rattle.go_base.specs.declared.operator.CompareOp.{CompareOp}
use Rattle.go_base.specs.declared.operator.CompareOp.TheVariants as compare
use Rattle.go_model.specs.declared.constants.class.Class.{Class}
use Rattle.go_model.specs.declared.constants.value.BinaryOp.{BinaryOp}
use Rattle.go_model.specs.declared.constants.value.BinaryOp.TheVariants as binary
use Rattle.go_model.specs.declared.constants.value.UnaryOp.{UnaryOp}
use Rattle.go_model.specs.declared.constants.value.UnaryOp.TheVariants as unary
use Rattle.go_model.specs.constants.Classes.{is_boolean, is_float, is_inexact, is_integer, is_string}

-- integers, floats and complex numbers
abbrev pub is_numeric : Class → Bool
is_numeric class = is_integer class || is_inexact class

abbrev pub unary_applies : UnaryOp → Class → Bool
unary_applies unary.Plus class = is_numeric class
unary_applies unary.Minus class = is_numeric class
unary_applies unary.Xor class = is_integer class
unary_applies unary.Not class = is_boolean class

abbrev pub binary_applies : BinaryOp → Class → Bool
binary_applies binary.Add class = is_numeric class || is_string class
binary_applies binary.Subtract class = is_numeric class
binary_applies binary.Multiply class = is_numeric class
binary_applies binary.Divide class = is_numeric class
binary_applies binary.Remainder class = is_integer class
binary_applies binary.And class = is_integer class
binary_applies binary.Or class = is_integer class
binary_applies binary.Xor class = is_integer class
binary_applies binary.AndNot class = is_integer class
binary_applies binary.LogicalAnd class = is_boolean class
binary_applies binary.LogicalOr class = is_boolean class

abbrev pub shift_applies : Class → Bool
shift_applies class = is_integer class

-- integers, floats and strings, whose values have an order
abbrev pub is_ordered : Class → Bool
is_ordered class = is_integer class || (is_float class || is_string class)

abbrev pub comparison_applies : CompareOp → Class → Bool
comparison_applies compare.Equal class = true
comparison_applies compare.NotEqual class = true
comparison_applies compare.Less class = is_ordered class
comparison_applies compare.LessEqual class = is_ordered class
comparison_applies compare.Greater class = is_ordered class
comparison_applies compare.GreaterEqual class = is_ordered class
