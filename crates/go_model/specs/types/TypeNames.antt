-- The names of defined types that stand in a type.
-- Own: parts of a type.
use Rattle.std.specs.Prelude.{List, [], ◌∷◌, ◌++◌}
use Rattle.go_model.specs.declared.types.names.TypeName.{TypeName}
use Rattle.go_model.specs.declared.types.term.Term.{Term, Term-F, fold-Term}
use Rattle.go_model.specs.declared.types.term.Field.{Field-F}
use Rattle.go_model.specs.declared.types.term.Method.{Method-F}
use Rattle.go_model.specs.declared.types.term.Signature.{Signature, Signature-F, fold-Signature}
use Rattle.go_base.specs.Gathered.{gather}

abbrev pub Names : Type 0
Names = List TypeName

abbrev pub all_of : List Names → Names
all_of xs = gather (λ x. x) xs

abbrev pub name_step : Term-F Names Names Names Names → Names
name_step (Term-F.Plain b) = []
name_step (Term-F.Named n) = n ∷ []
name_step (Term-F.Pointer e) = e
name_step (Term-F.Slice e) = e
name_step (Term-F.Array n e) = e
name_step (Term-F.Map k e) = k ++ e
name_step (Term-F.Chan d e) = e
name_step (Term-F.Func g) = g
name_step (Term-F.Struct fs) = all_of fs
name_step (Term-F.Interface ms) = all_of ms

abbrev pub field_names : Field-F Names Names Names Names → Names
field_names f = f.term

abbrev pub method_names : Method-F Names Names Names Names → Names
method_names m = m.signature

abbrev pub parameter_names : Signature-F Names Names Names Names → Names
parameter_names g = all_of g.params ++ all_of g.results

-- the names in a type
abbrev pub names : Term → Names
names = fold-Term Names Names Names Names name_step field_names method_names parameter_names

-- the names in a signature
abbrev pub signature_names : Signature → Names
signature_names = fold-Signature Names Names Names Names name_step field_names method_names parameter_names
