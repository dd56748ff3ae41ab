-- Types and signatures as text, in a package of a world.
-- Public source: the types that Go's cmd/api writes; own: an interface type that isn't defined is written by the names of all its methods, which a world holds in order.
use Rattle.std.specs.Prelude.{ℕ, Bool, true, false, ◌&&◌, List, [], ◌∷◌, ◌++◌, map, codes, decimal, Option, None, Some, if◌then◌else◌}
use Rattle.std.specs.Str.{bytes_eq}
use Rattle.go_base.specs.Keys.{first_with}
use Rattle.go_model.specs.declared.constants.value.Basic.{Basic}
use Rattle.go_model.specs.declared.constants.value.Basic.TheVariants as basic
use Rattle.go_model.specs.declared.constants.value.Untyped.{Untyped}
use Rattle.go_model.specs.declared.constants.value.Untyped.TheVariants as untyped
use Rattle.go_model.specs.declared.types.names.TypeName.{TypeName}
use Rattle.go_model.specs.declared.types.package.ConstTerm.{ConstTerm}
use Rattle.go_model.specs.declared.types.package.ConstTerm.TheVariants as constant
use Rattle.go_model.specs.declared.types.package.Package.{Package}
use Rattle.go_model.specs.declared.types.term.Direction.{Direction}
use Rattle.go_model.specs.declared.types.term.Direction.TheVariants as towards
use Rattle.go_model.specs.declared.types.term.Term.{Term, Term-F, fold-Term}
use Rattle.go_model.specs.declared.types.term.Field.{Field-F}
use Rattle.go_model.specs.declared.types.term.Method.{Method, Method-F, out-Method}
use Rattle.go_model.specs.declared.types.term.Signature.{Signature, Signature-F, fold-Signature}
use Rattle.go_model.specs.types.Terms.{is_error}
use Rattle.go_model.specs.worlds.Worlds.{path_of}

abbrev pub basic_text : Basic → List ℕ
basic_text basic.Bool = codes "bool"
basic_text basic.Int = codes "int"
basic_text basic.Int8 = codes "int8"
basic_text basic.Int16 = codes "int16"
basic_text basic.Int32 = codes "int32"
basic_text basic.Int64 = codes "int64"
basic_text basic.Uint = codes "uint"
basic_text basic.Uint8 = codes "uint8"
basic_text basic.Uint16 = codes "uint16"
basic_text basic.Uint32 = codes "uint32"
basic_text basic.Uint64 = codes "uint64"
basic_text basic.Uintptr = codes "uintptr"
basic_text basic.Float32 = codes "float32"
basic_text basic.Float64 = codes "float64"
basic_text basic.Complex64 = codes "complex64"
basic_text basic.Complex128 = codes "complex128"
basic_text basic.Str = codes "string"

abbrev pub direction_text : Direction → List ℕ
direction_text towards.Both = codes "chan "
direction_text towards.SendOnly = codes "chan<- "
direction_text towards.ReceiveOnly = codes "<-chan "

-- the kind of an untyped constant
abbrev pub kind_text : Untyped → List ℕ
kind_text untyped.IntKind = codes "ideal-int"
kind_text untyped.RuneKind = codes "ideal-char"
kind_text untyped.StrKind = codes "ideal-string"
kind_text untyped.BoolKind = codes "ideal-bool"

-- a name behind the name of its package; in a world each name has its package
abbrev pub qualified : Option Package → List ℕ → List ℕ
qualified None name = name
qualified (Some p) name = p.name ++ codes "." ++ name

-- the name of a type in the package of a path
abbrev pub name_text : List Package → List ℕ → TypeName → List ℕ
name_text packages path n =
    if is_error n then codes "error"
    else (if bytes_eq n.path path then n.name
    else qualified (first_with path_of packages n.path) n.name)

-- texts, each behind a comma
abbrev pub others : List (List ℕ) → List ℕ
others [] = []
others (x ∷ xs) = codes ", " ++ (x ++ others xs)

-- a list with commas
abbrev pub commas : List (List ℕ) → List ℕ
commas [] = []
commas (x ∷ xs) = x ++ others xs

-- a type as it stands anywhere, and as the last parameter of a variadic signature, where it is a slice
pub record Shown : Type 0 where
  pub text : List ℕ
  pub spread : List ℕ

abbrev pub shown : List ℕ → Shown
shown t = record { text = t; spread = codes "..." ++ t }

-- an interface type by the names of its methods
abbrev pub interface_text : List (List ℕ) → List ℕ
interface_text [] = codes "interface{}"
interface_text (m ∷ ms) = codes "interface{ " ++ commas (m ∷ ms) ++ codes " }"

abbrev pub is_last : {A : Type 0} → List A → Bool
is_last [] = true
is_last (x ∷ xs) = false

-- a parameter, spread or not
abbrev pub as_parameter : Bool → Shown → List ℕ
as_parameter true p = p.spread
as_parameter false p = p.text

-- the parameters, the last one spread where the signature is variadic
abbrev pub parameter_texts : List Shown → Bool → List (List ℕ)
parameter_texts [] variadic = []
parameter_texts (p ∷ ps) variadic = as_parameter (variadic && is_last ps) p ∷ parameter_texts ps variadic

-- the results behind the parameters
abbrev pub result_text : List (List ℕ) → List ℕ
result_text [] = []
result_text (r ∷ []) = codes " " ++ r
result_text (r ∷ s ∷ rs) = codes " (" ++ commas (r ∷ s ∷ rs) ++ codes ")"

abbrev pub text_of : Shown → List ℕ
text_of x = x.text

abbrev pub signature_step : Signature-F Shown (List ℕ) (List ℕ) (List ℕ) → List ℕ
signature_step g = codes "(" ++ commas (parameter_texts g.params g.variadic) ++ codes ")" ++ result_text (map text_of g.results)

-- the name of a method
abbrev pub name_of_method : Method → List ℕ
name_of_method m = (out-Method m).sel.name

abbrev pub method_step : Method-F Shown (List ℕ) (List ℕ) (List ℕ) → List ℕ
method_step m = m.sel.name

abbrev pub field_step : Field-F Shown (List ℕ) (List ℕ) (List ℕ) → List ℕ
field_step f = f.sel.name

abbrev pub type_step : (TypeName → List ℕ) → Term-F Shown (List ℕ) (List ℕ) (List ℕ) → Shown
type_step name (Term-F.Plain b) = shown (basic_text b)
type_step name (Term-F.Named n) = shown (name n)
type_step name (Term-F.Pointer e) = shown (codes "*" ++ e.text)
type_step name (Term-F.Slice e) = record { text = codes "[]" ++ e.text; spread = codes "..." ++ e.text }
type_step name (Term-F.Array n e) = shown (codes "[" ++ decimal n ++ codes "]" ++ e.text)
type_step name (Term-F.Map k e) = shown (codes "map[" ++ k.text ++ codes "]" ++ e.text)
type_step name (Term-F.Chan d e) = shown (direction_text d ++ e.text)
type_step name (Term-F.Func g) = shown (codes "func" ++ g)
type_step name (Term-F.Struct fs) = shown (codes "struct")
type_step name (Term-F.Interface ms) = shown (interface_text ms)

-- a type in the package of a path
abbrev pub shown_type : List Package → List ℕ → Term → Shown
shown_type packages path = fold-Term Shown (List ℕ) (List ℕ) (List ℕ) (type_step (name_text packages path)) field_step method_step signature_step

abbrev pub type_text : List Package → List ℕ → Term → List ℕ
type_text packages path t = text_of (shown_type packages path t)

-- the parameters and results of a signature
abbrev pub signature_text : List Package → List ℕ → Signature → List ℕ
signature_text packages path = fold-Signature Shown (List ℕ) (List ℕ) (List ℕ) (type_step (name_text packages path)) field_step method_step signature_step

-- the type of a constant, or its kind
abbrev pub constant_type : List Package → List ℕ → ConstTerm → List ℕ
constant_type packages path (constant.OfTerm t) = type_text packages path t
constant_type packages path (constant.OfKind k) = kind_text k
