-- The image of a type: the type with each name in it replaced by the new name, and each selector by the new selector.
-- Own: what a client of the old packages has in the new ones.
use Rattle.std.specs.Prelude.{map}
use Rattle.go_model.specs.types.Terms.{Layer}
use Rattle.go_model.specs.declared.types.names.TypeName.{TypeName}
use Rattle.go_model.specs.declared.types.names.Sel.{Sel}
use Rattle.go_model.specs.declared.types.term.Term.{Term, Term-F, roll-Term, fold-Term}
use Rattle.go_model.specs.declared.types.term.Field.{Field, Field-F, roll-Field, fold-Field}
use Rattle.go_model.specs.declared.types.term.Method.{Method, Method-F, roll-Method, fold-Method}
use Rattle.go_model.specs.declared.types.term.Signature.{Signature, roll-Signature, fold-Signature}

abbrev pub Naming : Type 0
Naming = TypeName → TypeName

abbrev pub Selecting : Type 0
Selecting = Sel → Sel

-- selectors stay as they are
abbrev pub same_sels : Selecting
same_sels s = s

abbrev pub image_step : Naming → Layer → Term
image_step r (Term-F.Named n) = roll-Term (Term-F.Named (r n))
image_step r l = roll-Term l

abbrev pub image_field_step : Selecting → Field-F Term Field Method Signature → Field
image_field_step s f = roll-Field (record { sel = s f.sel; embedded = f.embedded; term = f.term; tag = f.tag })

abbrev pub image_method_step : Selecting → Method-F Term Field Method Signature → Method
image_method_step s m = roll-Method (record { sel = s m.sel; signature = m.signature })

abbrev pub image : Naming → Selecting → Term → Term
image r s = fold-Term Term Field Method Signature (image_step r) (image_field_step s) (image_method_step s) roll-Signature

-- the same of a field, a method and a signature
abbrev pub image_of_field : Naming → Selecting → Field → Field
image_of_field r s = fold-Field Term Field Method Signature (image_step r) (image_field_step s) (image_method_step s) roll-Signature

abbrev pub image_of_method : Naming → Selecting → Method → Method
image_of_method r s = fold-Method Term Field Method Signature (image_step r) (image_field_step s) (image_method_step s) roll-Signature

abbrev pub image_of_signature : Naming → Selecting → Signature → Signature
image_of_signature r s = fold-Signature Term Field Method Signature (image_step r) (image_field_step s) (image_method_step s) roll-Signature

-- the image of a level
abbrev pub image_of_layer : Naming → Selecting → Layer → Layer
image_of_layer r s (Term-F.Plain b) = Term-F.Plain b
image_of_layer r s (Term-F.Named n) = Term-F.Named (r n)
image_of_layer r s (Term-F.Pointer e) = Term-F.Pointer (image r s e)
image_of_layer r s (Term-F.Slice e) = Term-F.Slice (image r s e)
image_of_layer r s (Term-F.Array n e) = Term-F.Array n (image r s e)
image_of_layer r s (Term-F.Map k e) = Term-F.Map (image r s k) (image r s e)
image_of_layer r s (Term-F.Chan d e) = Term-F.Chan d (image r s e)
image_of_layer r s (Term-F.Func g) = Term-F.Func (image_of_signature r s g)
image_of_layer r s (Term-F.Struct fs) = Term-F.Struct (map (image_of_field r s) fs)
image_of_layer r s (Term-F.Interface ms) = Term-F.Interface (map (image_of_method r s) ms)
