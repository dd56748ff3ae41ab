-- Classes of basic types and of kinds of untyped constants, and the sizes of integer types.
-- Public source: Go specification, "Boolean types", "Numeric types", "String types" and "Constants".
use Rattle.std.specs.Prelude.{ℕ, Bool, true, false, ◌||◌, Option, None, Some}
use Rattle.go_model.specs.declared.constants.class.Class.{Class}
use Rattle.go_model.specs.declared.constants.class.Class.TheVariants as c
use Rattle.go_model.specs.declared.constants.class.Integer.{Integer}
use Rattle.go_model.specs.declared.constants.class.Integer.TheVariants as i
use Rattle.go_model.specs.declared.constants.value.Basic.{Basic}
use Rattle.go_model.specs.declared.constants.value.Basic.TheVariants as b
use Rattle.go_model.specs.declared.constants.value.Kind.{Kind}
use Rattle.go_model.specs.declared.constants.value.Kind.TheVariants as k
use Rattle.go_model.specs.declared.constants.value.Untyped.{Untyped}
use Rattle.go_model.specs.declared.constants.value.Untyped.TheVariants as u

abbrev pub class_of_basic : Basic → Class
class_of_basic b.Bool = c.Bool
class_of_basic b.Int = c.Integer
class_of_basic b.Int8 = c.Integer
class_of_basic b.Int16 = c.Integer
class_of_basic b.Int32 = c.Integer
class_of_basic b.Int64 = c.Integer
class_of_basic b.Uint = c.Integer
class_of_basic b.Uint8 = c.Integer
class_of_basic b.Uint16 = c.Integer
class_of_basic b.Uint32 = c.Integer
class_of_basic b.Uint64 = c.Integer
class_of_basic b.Uintptr = c.Integer
class_of_basic b.Float32 = c.Float
class_of_basic b.Float64 = c.Float
class_of_basic b.Complex64 = c.Complex
class_of_basic b.Complex128 = c.Complex
class_of_basic b.Str = c.Str

-- untyped integers and runes are whole numbers
abbrev pub class_of_untyped : Untyped → Class
class_of_untyped u.IntKind = c.Integer
class_of_untyped u.RuneKind = c.Integer
class_of_untyped u.StrKind = c.Str
class_of_untyped u.BoolKind = c.Bool

abbrev pub class_of : Kind → Class
class_of (k.Typed basic) = class_of_basic basic
class_of (k.Loose untyped) = class_of_untyped untyped

abbrev pub is_boolean : Class → Bool
is_boolean c.Bool = true
is_boolean _ = false

abbrev pub is_integer : Class → Bool
is_integer c.Integer = true
is_integer _ = false

abbrev pub is_float : Class → Bool
is_float c.Float = true
is_float _ = false

abbrev pub is_complex : Class → Bool
is_complex c.Complex = true
is_complex _ = false

-- a class of which this project has no constants
abbrev pub is_inexact : Class → Bool
is_inexact class = is_float class || is_complex class

abbrev pub is_string : Class → Bool
is_string c.Str = true
is_string _ = false

-- the integer type, where int, uint and uintptr have so many bits; None of any other type
abbrev pub integer_of : Basic → ℕ → Option Integer
integer_of b.Int bits = Some (i.Signed bits)
integer_of b.Int8 bits = Some (i.Signed 8)
integer_of b.Int16 bits = Some (i.Signed 16)
integer_of b.Int32 bits = Some (i.Signed 32)
integer_of b.Int64 bits = Some (i.Signed 64)
integer_of b.Uint bits = Some (i.Unsigned bits)
integer_of b.Uint8 bits = Some (i.Unsigned 8)
integer_of b.Uint16 bits = Some (i.Unsigned 16)
integer_of b.Uint32 bits = Some (i.Unsigned 32)
integer_of b.Uint64 bits = Some (i.Unsigned 64)
integer_of b.Uintptr bits = Some (i.Unsigned bits)
integer_of _ bits = None

abbrev pub integer_of_kind : Kind → ℕ → Option Integer
integer_of_kind (k.Typed basic) bits = integer_of basic bits
integer_of_kind (k.Loose untyped) bits = None
