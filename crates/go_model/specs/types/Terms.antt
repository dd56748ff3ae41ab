-- Types as terms, a level at a time.
-- Public source: Go specification, "Types", "Type identity" and, for `error`, "Errors".
use Rattle.std.specs.Prelude.{◌≡◌, ◌&&◌, ℕ, List, [], ◌∷◌, Bool, false, Option, None, Some, codes}
use Rattle.std.specs.Str.{bytes_eq}
use Rattle.go_model.specs.declared.types.names.TypeName.{TypeName}
use Rattle.go_model.specs.declared.types.names.Sel.{Sel}
use Rattle.go_model.specs.declared.types.term.Term.{Term, Term-F, roll-Term}
use Rattle.go_model.specs.declared.types.term.Field.{Field}
use Rattle.go_model.specs.declared.types.term.Method.{Method, roll-Method}
use Rattle.go_model.specs.declared.types.term.Signature.{Signature, roll-Signature}
use Rattle.go_model.specs.declared.types.package.Defined.{Defined}
use Rattle.go_model.specs.declared.constants.value.Basic.TheVariants as basic

-- one level of a type, whose parts are types
abbrev pub Layer : Type 0
Layer = Term-F Term Field Method Signature

-- the signature of a function type
abbrev pub signature_of : Layer → Option Signature
signature_of (Term-F.Func g) = Some g
signature_of l = None

-- the pointer type to a type
abbrev pub pointer_to : Term → Term
pointer_to base = roll-Term (Term-F.Pointer base)

-- the slice type of an element
abbrev pub slice_of : Term → Term
slice_of element = roll-Term (Term-F.Slice element)

-- two selectors are the same name of the same package
abbrev pub same_sel : Sel → Sel → Bool
same_sel a b = bytes_eq a.name b.name && bytes_eq a.«package» b.«package»

-- the blank name, which stands for no field and no method
abbrev pub blank : List ℕ
blank = codes "_"

abbrev pub IsBlank : Sel → Type 0
IsBlank s = s.name ≡ blank

-- the path of the package of a client
abbrev pub client_path : List ℕ
client_path = codes "-client"

-- the predeclared `error`
abbrev pub is_error : TypeName → Bool
is_error n = bytes_eq n.path [] && bytes_eq n.name (codes "error")

-- the one method of `error`, `Error() string`
abbrev pub error_method : Method
error_method = roll-Method (record { sel = record { name = codes "Error"; «package» = [] }; signature = roll-Signature (record { params = []; variadic = false; results = roll-Term (Term-F.Plain basic.Str) ∷ [] }) })

abbrev pub error_type : Defined
error_type = record { name = codes "error"; underlying = roll-Term (Term-F.Interface (error_method ∷ [])); methods = [] }
