-- Bytes that tell types apart, and pairs of types.
-- Own: no code is the beginning of another one.
use Rattle.std.specs.Prelude.{ℕ, zero, suc, ◌/◌, ◌%◌, List, [], ◌∷◌, ◌++◌, Bool, true, false}
use Rattle.go_model.specs.declared.constants.value.Basic.{Basic}
use Rattle.go_model.specs.declared.constants.value.Basic.TheVariants as basic
use Rattle.go_model.specs.declared.types.names.Sel.{Sel}
use Rattle.go_model.specs.declared.types.term.Direction.{Direction}
use Rattle.go_model.specs.declared.types.term.Direction.TheVariants as towards
use Rattle.go_model.specs.declared.types.term.Term.{Term, Term-F, fold-Term}
use Rattle.go_model.specs.declared.types.term.Field.{Field, Field-F, fold-Field}
use Rattle.go_model.specs.declared.types.term.Method.{Method, Method-F, fold-Method}
use Rattle.go_model.specs.declared.types.term.Signature.{Signature, Signature-F, fold-Signature}
use Rattle.go_type_images.specs.declared.pair.TypePair.{TypePair}

abbrev pub Code : Type 0
Code = List ℕ

abbrev pub code_of_text : List ℕ → Code
code_of_text [] = 0 ∷ []
code_of_text (b ∷ bs) = 1 ∷ b ∷ code_of_text bs

-- of a list, by the codes of its items
abbrev pub code_of_list : List Code → Code
code_of_list [] = 0 ∷ []
code_of_list (c ∷ cs) = 1 ∷ (c ++ code_of_list cs)

abbrev pub code_of_rest : ℕ → Code
code_of_rest zero = 0 ∷ []
code_of_rest (suc n) = 1 ∷ code_of_rest n

-- so many digits to the base 256, the lowest first, and what is left
abbrev pub digits : ℕ → ℕ → Code
digits zero n = code_of_rest n
digits (suc k) n = n % 256 ∷ digits k (n / 256)

abbrev pub code_of_number : ℕ → Code
code_of_number n = digits 8 n

abbrev pub code_of_flag : Bool → ℕ
code_of_flag true = 1
code_of_flag false = 0

abbrev pub code_of_direction : Direction → ℕ
code_of_direction towards.Both = 0
code_of_direction towards.SendOnly = 1
code_of_direction towards.ReceiveOnly = 2

abbrev pub code_of_basic : Basic → ℕ
code_of_basic basic.Bool = 0
code_of_basic basic.Int = 1
code_of_basic basic.Int8 = 2
code_of_basic basic.Int16 = 3
code_of_basic basic.Int32 = 4
code_of_basic basic.Int64 = 5
code_of_basic basic.Uint = 6
code_of_basic basic.Uint8 = 7
code_of_basic basic.Uint16 = 8
code_of_basic basic.Uint32 = 9
code_of_basic basic.Uint64 = 10
code_of_basic basic.Uintptr = 11
code_of_basic basic.Float32 = 12
code_of_basic basic.Float64 = 13
code_of_basic basic.Complex64 = 14
code_of_basic basic.Complex128 = 15
code_of_basic basic.Str = 16

abbrev pub code_of_sel : Sel → Code
code_of_sel s = code_of_text s.name ++ code_of_text s.«package»

abbrev pub field_code : Field-F Code Code Code Code → Code
field_code f = code_of_sel f.sel ++ code_of_flag f.embedded ∷ (code_of_text f.tag ++ f.term)

abbrev pub method_code : Method-F Code Code Code Code → Code
method_code m = code_of_sel m.sel ++ m.signature

abbrev pub signature_code : Signature-F Code Code Code Code → Code
signature_code g = code_of_flag g.variadic ∷ (code_of_list g.params ++ code_of_list g.results)

abbrev pub layer_code : Term-F Code Code Code Code → Code
layer_code (Term-F.Plain b) = 0 ∷ code_of_basic b ∷ []
layer_code (Term-F.Named n) = 1 ∷ (code_of_text n.path ++ code_of_text n.name)
layer_code (Term-F.Pointer e) = 2 ∷ e
layer_code (Term-F.Slice e) = 3 ∷ e
layer_code (Term-F.Array n e) = 4 ∷ (code_of_number n ++ e)
layer_code (Term-F.Map k e) = 5 ∷ (k ++ e)
layer_code (Term-F.Chan d e) = 6 ∷ code_of_direction d ∷ e
layer_code (Term-F.Func g) = 7 ∷ g
layer_code (Term-F.Struct fs) = 8 ∷ code_of_list fs
layer_code (Term-F.Interface ms) = 9 ∷ code_of_list ms

-- of a type
abbrev pub code : Term → Code
code = fold-Term Code Code Code Code layer_code field_code method_code signature_code

-- the same of a field, a method and a signature
abbrev pub code_of_field : Field → Code
code_of_field = fold-Field Code Code Code Code layer_code field_code method_code signature_code

abbrev pub code_of_method : Method → Code
code_of_method = fold-Method Code Code Code Code layer_code field_code method_code signature_code

abbrev pub code_of_signature : Signature → Code
code_of_signature = fold-Signature Code Code Code Code layer_code field_code method_code signature_code

-- of a pair of types
abbrev pub code_of_pair : TypePair → Code
code_of_pair p = code p.old ++ code p.new
