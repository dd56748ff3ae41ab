-- The universe block: which names it has, and what each denotes.
-- Public source: Go specification, "Predeclared identifiers", "Blank identifier", "Iota", "Boolean types",
-- "Numeric types" and "String types"; generic names, those of complex arithmetic, and `clear`, `max` and `min` are left
-- out, which is own.
use Rattle.std.specs.Prelude.{ℕ, pos, Option, Some, None, List, [], ◌∷◌, if◌then◌else◌, codes, bytes_eq, true, false}
use Rattle.go_model.specs.declared.constants.value.Basic.{Basic}
use Rattle.go_model.specs.declared.constants.value.Basic.TheVariants as basic
use Rattle.go_model.specs.declared.constants.value.Untyped.TheVariants as untyped
use Rattle.go_model.specs.declared.constants.value.Value.TheVariants as value
use Rattle.go_model.specs.declared.types.package.ConstTerm.TheVariants as constant
use Rattle.go_model.specs.declared.types.term.Term.{Term, Term-F, roll-Term}
use Rattle.go_rules.specs.Operands.{any_term, basic_term, builtin, constant_of, nil, type_name}
use Rattle.go_rules.specs.declared.operand.Operand.{Operand}
use Rattle.go_rules.specs.declared.predeclared.Predeclared.{Predeclared}
use Rattle.go_rules.specs.declared.predeclared.Predeclared.TheVariants as p

-- the names of the universe, and the variant of each
abbrev pub universe : List (List ℕ × Predeclared)
universe =
    (codes "any", p.Any) ∷ (codes "bool", p.Bool) ∷ (codes "byte", p.Byte) ∷ (codes "complex64", p.Complex64)
    ∷ (codes "complex128", p.Complex128) ∷ (codes "error", p.Error) ∷ (codes "float32", p.Float32)
    ∷ (codes "float64", p.Float64) ∷ (codes "int", p.Int) ∷ (codes "int8", p.Int8) ∷ (codes "int16", p.Int16)
    ∷ (codes "int32", p.Int32) ∷ (codes "int64", p.Int64) ∷ (codes "rune", p.Rune) ∷ (codes "string", p.Str)
    ∷ (codes "uint", p.Uint) ∷ (codes "uint8", p.Uint8) ∷ (codes "uint16", p.Uint16) ∷ (codes "uint32", p.Uint32)
    ∷ (codes "uint64", p.Uint64) ∷ (codes "uintptr", p.Uintptr)
    ∷ (codes "true", p.True) ∷ (codes "false", p.False) ∷ (codes "iota", p.Iota) ∷ (codes "nil", p.Nil)
    ∷ (codes "append", p.Append) ∷ (codes "cap", p.Cap) ∷ (codes "close", p.Close) ∷ (codes "copy", p.Copy)
    ∷ (codes "delete", p.Delete) ∷ (codes "len", p.Len) ∷ (codes "make", p.Make) ∷ (codes "new", p.New)
    ∷ (codes "panic", p.Panic) ∷ (codes "print", p.Print) ∷ (codes "println", p.Println)
    ∷ (codes "recover", p.Recover) ∷ []

-- what the first of the rows with that name has
abbrev pub found_in : List (List ℕ × Predeclared) → List ℕ → Option Predeclared
found_in [] name = None
found_in (row ∷ rows) name = if bytes_eq row.0 name then Some row.1 else found_in rows name

-- what the universe has under a name
abbrev pub predeclared : List ℕ → Option Predeclared
predeclared name = found_in universe name

-- a basic type, for a name that stands for one
abbrev pub basic_type : Basic → Option Term
basic_type b = Some (basic_term b)

-- the type that a predeclared name stands for
abbrev pub predeclared_type : Predeclared → Option Term
predeclared_type p.Any = Some any_term
predeclared_type p.Bool = basic_type basic.Bool
predeclared_type p.Byte = basic_type basic.Uint8
predeclared_type p.Complex64 = basic_type basic.Complex64
predeclared_type p.Complex128 = basic_type basic.Complex128
predeclared_type p.Error = Some (roll-Term (Term-F.Named (record { path = []; name = codes "error" })))
predeclared_type p.Float32 = basic_type basic.Float32
predeclared_type p.Float64 = basic_type basic.Float64
predeclared_type p.Int = basic_type basic.Int
predeclared_type p.Int8 = basic_type basic.Int8
predeclared_type p.Int16 = basic_type basic.Int16
predeclared_type p.Int32 = basic_type basic.Int32
predeclared_type p.Int64 = basic_type basic.Int64
predeclared_type p.Rune = basic_type basic.Int32
predeclared_type p.Str = basic_type basic.Str
predeclared_type p.Uint = basic_type basic.Uint
predeclared_type p.Uint8 = basic_type basic.Uint8
predeclared_type p.Uint16 = basic_type basic.Uint16
predeclared_type p.Uint32 = basic_type basic.Uint32
predeclared_type p.Uint64 = basic_type basic.Uint64
predeclared_type p.Uintptr = basic_type basic.Uintptr
predeclared_type other = None

-- what a name of a type denotes, where it is one
abbrev pub type_operand : Option Term → Option Operand
type_operand None = None
type_operand (Some t) = Some (type_name t)

-- what `iota` denotes, where it has a value
abbrev pub iota_operand : Option ℕ → Option Operand
iota_operand None = None
iota_operand (Some n) = Some (constant_of (constant.OfKind untyped.IntKind) (value.Int (pos n)))

-- what a predeclared name denotes, where `iota` has this value or none
abbrev pub predeclared_operand : Option ℕ → Predeclared → Option Operand
predeclared_operand iota p.True = Some (constant_of (constant.OfKind untyped.BoolKind) (value.Truth true))
predeclared_operand iota p.False = Some (constant_of (constant.OfKind untyped.BoolKind) (value.Truth false))
predeclared_operand iota p.Iota = iota_operand iota
predeclared_operand iota p.Nil = Some nil
predeclared_operand iota p.Append = Some (builtin p.Append)
predeclared_operand iota p.Cap = Some (builtin p.Cap)
predeclared_operand iota p.Close = Some (builtin p.Close)
predeclared_operand iota p.Copy = Some (builtin p.Copy)
predeclared_operand iota p.Delete = Some (builtin p.Delete)
predeclared_operand iota p.Len = Some (builtin p.Len)
predeclared_operand iota p.Make = Some (builtin p.Make)
predeclared_operand iota p.New = Some (builtin p.New)
predeclared_operand iota p.Panic = Some (builtin p.Panic)
predeclared_operand iota p.Print = Some (builtin p.Print)
predeclared_operand iota p.Println = Some (builtin p.Println)
predeclared_operand iota p.Recover = Some (builtin p.Recover)
predeclared_operand iota other = type_operand (predeclared_type other)
