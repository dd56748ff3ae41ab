-- The types under the outermost constructor of a type.
-- Public source: Go specification, "Types" and "Type identity".
use Rattle.std.specs.Prelude.{List, [], ◌∷◌, ◌++◌, map}
use Rattle.go_model.specs.types.Terms.{Layer}
use Rattle.go_model.specs.declared.types.term.Term.{Term, Term-F, roll-Term}
use Rattle.go_model.specs.declared.types.term.Field.{Field, out-Field}
use Rattle.go_model.specs.declared.types.term.Method.{Method, out-Method}
use Rattle.go_model.specs.declared.types.term.Signature.{Signature, out-Signature}

-- a function type
abbrev pub function_type : Signature → Term
function_type g = roll-Term (Term-F.Func g)

abbrev pub field_type : Field → Term
field_type f = (out-Field f).term

abbrev pub method_type : Method → Term
method_type m = function_type (out-Method m).signature

-- the types under the outermost constructor, in order; those of an interface are the types of its methods
abbrev pub parts : Layer → List Term
parts (Term-F.Plain b) = []
parts (Term-F.Named n) = []
parts (Term-F.Pointer e) = e ∷ []
parts (Term-F.Slice e) = e ∷ []
parts (Term-F.Array n e) = e ∷ []
parts (Term-F.Map k e) = k ∷ e ∷ []
parts (Term-F.Chan d e) = e ∷ []
parts (Term-F.Func g) = (out-Signature g).params ++ (out-Signature g).results
parts (Term-F.Struct fs) = map field_type fs
parts (Term-F.Interface ms) = map method_type ms
