-- Values of constants and the operators on them, exact over the whole numbers.
-- Public source: Go specification, "Constants", "Constant expressions", "Representability", "Operators" and "Conversions to
-- and from a string type". That a number has at most 128 bits and a text at most 65,536 bytes is own, and so is that
-- there are no values of float and complex kinds.
use Rattle.std.specs.Prelude.{◌≡◌, ℕ, ◌-◌, ◌^◌, Bool, true, false, not, if◌then◌else◌, ◌&&◌, ◌||◌, nat_lt, nat_le, ℤ, pos, negsuc, ◌+ℤ◌, ◌-ℤ◌, ◌*ℤ◌, neg_ℤ, int_le, int_div, int_rem, Option, None, Some, List, ◌++◌, length}
use Rattle.std.specs.Bool.{beq}
use Rattle.std.specs.Char.{encode_utf8}
use Rattle.std.specs.Cmp.Lexicographic.{slice_cmp}
use Rattle.std.specs.Int.{int_shr}
use Rattle.std.specs.Option.{option_map}
use Rattle.std.specs.declared.cmp.Ordering.{Ordering}
use Rattle.std.specs.Ordering.{is_eq, is_ne, is_lt, is_le, is_gt, is_ge, int_cmp, int_eq, nat_cmp}
use Rattle.go_model.specs.declared.constants.class.Class.{Class}
use Rattle.go_model.specs.declared.constants.class.Class.TheVariants as c
use Rattle.go_model.specs.declared.constants.class.Integer.{Integer}
use Rattle.go_model.specs.declared.constants.class.Integer.TheVariants as i
use Rattle.go_base.specs.declared.operator.CompareOp.{CompareOp}
use Rattle.go_base.specs.declared.operator.CompareOp.TheVariants as compare
use Rattle.go_model.specs.declared.constants.value.Basic.{Basic}
use Rattle.go_model.specs.declared.constants.value.BinaryOp.{BinaryOp}
use Rattle.go_model.specs.declared.constants.value.BinaryOp.TheVariants as binary
use Rattle.go_model.specs.declared.constants.value.Kind.{Kind}
use Rattle.go_model.specs.declared.constants.value.Kind.TheVariants as k
use Rattle.go_model.specs.declared.constants.value.UnaryOp.{UnaryOp}
use Rattle.go_model.specs.declared.constants.value.UnaryOp.TheVariants as unary
use Rattle.go_model.specs.declared.constants.value.Untyped.{Untyped}
use Rattle.go_model.specs.declared.constants.value.Untyped.TheVariants as u
use Rattle.go_model.specs.declared.constants.value.Value.{Value}
use Rattle.go_model.specs.declared.constants.value.Value.TheVariants as v
use Rattle.go_model.specs.constants.Bits.{and_not_numbers, and_numbers, complement, or_numbers, xor_numbers}
use Rattle.go_model.specs.constants.Classes.{class_of, class_of_basic, integer_of, integer_of_kind, is_boolean, is_inexact, is_string}
use Rattle.go_model.specs.constants.Operators.{binary_applies, shift_applies, unary_applies}

-- ---- values

-- x is one of the numbers from low to high
abbrev pub lies_between : ℤ → ℤ → ℤ → Bool
lies_between low high x = int_le low x && int_le x high

-- x fits into 128 bits, with sign: it is a number from -2^127 to 2^127 - 1
abbrev pub fits_128_bits : ℤ → Bool
fits_128_bits x = lies_between (neg_ℤ (pos (2 ^ 127))) (pos (2 ^ 127 - 1)) x

-- a number that fits into 128 bits, a text of at most 65,536 bytes, or a truth value
abbrev pub is_in_range : Value → Bool
is_in_range (v.Int x) = fits_128_bits x
is_in_range (v.Str text) = nat_le (length text) 65536
is_in_range (v.Truth truth) = true

-- x is a number of the integer type
abbrev pub is_number_of : Integer → ℤ → Bool
is_number_of (i.Signed n) x = lies_between (neg_ℤ (pos (2 ^ (n - 1)))) (pos (2 ^ (n - 1) - 1)) x
is_number_of (i.Unsigned n) x = lies_between (pos 0) (pos (2 ^ n - 1)) x

-- a whole number is representable in an integer type by its range, and in every float and complex type
abbrev pub is_number_representable : Option Integer → Class → ℤ → Bool
is_number_representable (Some integer) class x = is_number_of integer x
is_number_representable None class x = is_inexact class

-- the value is representable in the type, where int, uint and uintptr have so many bits
unfoldable pub is_representable : Value → Basic → ℕ → Bool
is_representable (v.Int x) basic bits = is_number_representable (integer_of basic bits) (class_of_basic basic) x
is_representable (v.Str text) basic bits = is_string (class_of_basic basic)
is_representable (v.Truth truth) basic bits = is_boolean (class_of_basic basic)

-- the value is of the untyped kind, by its variant
abbrev pub is_of_untyped : Value → Untyped → Bool
is_of_untyped (v.Int x) u.IntKind = true
is_of_untyped (v.Int x) u.RuneKind = true
is_of_untyped (v.Str text) u.StrKind = true
is_of_untyped (v.Truth truth) u.BoolKind = true
is_of_untyped _ _ = false

-- the value is of the kind: of a type where it is representable in it, but of no float or complex type
unfoldable pub is_of : Value → Kind → ℕ → Bool
is_of value (k.Typed basic) bits = not (is_inexact (class_of_basic basic)) && is_representable value basic bits
is_of value (k.Loose untyped) bits = is_of_untyped value untyped

-- the value is a constant's of the kind: in range, and of it
abbrev pub IsConstant : Value → Kind → ℕ → Type 0
IsConstant value kind bits = (is_in_range value ≡ true) × (is_of value kind bits ≡ true)

-- an exact result is one of the operation where it is in range and of the kind
unfoldable pub kept : Kind → ℕ → Option Value → Option Value
kept kind bits None = None
kept kind bits (Some value) = if is_in_range value && is_of value kind bits then Some value else None

-- ---- operators on one value

-- ^x is -x - 1, and 2^n - 1 - x for an unsigned type of n bits
abbrev pub complement_of : Option Integer → ℤ → ℤ
complement_of (Some (i.Unsigned n)) x = pos (2 ^ n - 1) -ℤ x
complement_of (Some (i.Signed n)) x = complement x
complement_of None x = complement x

abbrev pub unary_number : UnaryOp → Option Integer → ℤ → Option ℤ
unary_number unary.Plus integer x = Some x
unary_number unary.Minus integer x = Some (neg_ℤ x)
unary_number unary.Xor integer x = Some (complement_of integer x)
unary_number unary.Not integer x = None

abbrev pub unary_truth : UnaryOp → Bool → Option Bool
unary_truth unary.Not truth = Some (not truth)
unary_truth _ truth = None

abbrev pub exact_unary : UnaryOp → Option Integer → Value → Option Value
exact_unary op integer (v.Int x) = option_map v.Int (unary_number op integer x)
exact_unary op integer (v.Str text) = None
exact_unary op integer (v.Truth truth) = option_map v.Truth (unary_truth op truth)

-- the value of an operator before a value of the kind; None where it has none
unfoldable pub unary_value : UnaryOp → Value → Kind → ℕ → Option Value
unary_value op value kind bits = if unary_applies op (class_of kind) then kept kind bits (exact_unary op (integer_of_kind kind bits) value) else None

-- ---- operators on two values

-- x, and nothing where the divisor is 0
abbrev pub unless_zero : ℤ → ℤ → Option ℤ
unless_zero divisor x = if int_eq divisor (pos 0) then None else Some x

-- a quotient goes towards zero, and a remainder has the sign of the left side; by 0 there is neither
abbrev pub binary_number : BinaryOp → ℤ → ℤ → Option ℤ
binary_number binary.Add x y = Some (x +ℤ y)
binary_number binary.Subtract x y = Some (x -ℤ y)
binary_number binary.Multiply x y = Some (x *ℤ y)
binary_number binary.Divide x y = unless_zero y (int_div x y)
binary_number binary.Remainder x y = unless_zero y (int_rem x y)
binary_number binary.And x y = Some (and_numbers x y)
binary_number binary.Or x y = Some (or_numbers x y)
binary_number binary.Xor x y = Some (xor_numbers x y)
binary_number binary.AndNot x y = Some (and_not_numbers x y)
binary_number binary.LogicalAnd x y = None
binary_number binary.LogicalOr x y = None

abbrev pub binary_text : BinaryOp → List ℕ → List ℕ → Option (List ℕ)
binary_text binary.Add left right = Some (left ++ right)
binary_text _ left right = None

abbrev pub binary_truth : BinaryOp → Bool → Bool → Option Bool
binary_truth binary.LogicalAnd left right = Some (left && right)
binary_truth binary.LogicalOr left right = Some (left || right)
binary_truth _ left right = None

abbrev pub exact_binary : BinaryOp → Value → Value → Option Value
exact_binary op (v.Int x) (v.Int y) = option_map v.Int (binary_number op x y)
exact_binary op (v.Str left) (v.Str right) = option_map v.Str (binary_text op left right)
exact_binary op (v.Truth left) (v.Truth right) = option_map v.Truth (binary_truth op left right)
exact_binary _ _ _ = None

-- the value of an operator between two values of the kind; None where it has none
unfoldable pub binary_value : BinaryOp → Value → Value → Kind → ℕ → Option Value
binary_value op left right kind bits = if binary_applies op (class_of kind) then kept kind bits (exact_binary op left right) else None

-- ---- shifts

-- a left shift multiplies by 2^count, and a right shift divides by it, rounded down
abbrev pub exact_shift : Bool → ℤ → ℕ → ℤ
exact_shift true x count = x *ℤ pos (2 ^ count)
exact_shift false x count = int_shr x count

-- the value, shifted to the left or to the right; there is none by a count below 0
unfoldable pub shift_value : Bool → Value → Value → Kind → ℕ → Option Value
shift_value left (v.Int x) (v.Int (pos count)) kind bits = if shift_applies (class_of kind) then kept kind bits (Some (v.Int (exact_shift left x count))) else None
shift_value _ _ _ _ _ = None

-- ---- comparisons

abbrev pub holds_at : CompareOp → Ordering → Bool
holds_at compare.Equal = is_eq
holds_at compare.NotEqual = is_ne
holds_at compare.Less = is_lt
holds_at compare.LessEqual = is_le
holds_at compare.Greater = is_gt
holds_at compare.GreaterEqual = is_ge

-- truth values have no order
abbrev pub truth_comparison : CompareOp → Bool → Bool → Option Bool
truth_comparison compare.Equal left right = Some (beq left right)
truth_comparison compare.NotEqual left right = Some (not (beq left right))
truth_comparison _ left right = None

-- the truth of a comparison: texts are compared by bytes, and values of different variants have none
unfoldable pub comparison : CompareOp → Value → Value → Option Bool
comparison op (v.Int x) (v.Int y) = Some (holds_at op (int_cmp x y))
comparison op (v.Str left) (v.Str right) = Some (holds_at op (slice_cmp nat_cmp left right))
comparison op (v.Truth left) (v.Truth right) = truth_comparison op left right
comparison _ _ _ = None

-- ---- conversions

-- c is the code of a character: at most 0x10FFFF, and no surrogate
abbrev pub is_character : ℕ → Bool
is_character c = nat_lt c 0xD800 || (nat_le 0xE000 c && nat_le c 0x10FFFF)

-- the character of that number, or U+FFFD where there is none
abbrev pub character_of : ℤ → ℕ
character_of (pos c) = if is_character c then c else 0xFFFD
character_of (negsuc n) = 0xFFFD

-- a whole number of an integer class becomes as a text the UTF-8 bytes of its character
abbrev pub as_text : Value → Class → Class → Option Value
as_text (v.Int x) c.Integer c.Str = Some (v.Str (encode_utf8 (character_of x)))
as_text _ _ _ = None

-- the value of one kind, converted to a type: itself where it is in range and representable in the type,
-- else the text of a whole number, where the kind is of an integer class and the type of the string class;
-- None where it is neither, and where the type is a float or complex one
unfoldable pub converted : Value → Kind → Basic → ℕ → Option Value
converted value from to bits = if is_inexact (class_of_basic to) then None else (if is_in_range value && is_representable value to bits then Some value else as_text value (class_of from) (class_of_basic to))
