-- Types without the tags of their fields.
-- Public source: Go specification, "Conversions": struct tags are ignored, at every depth.
use Rattle.std.specs.Prelude.{[]}
use Rattle.go_model.specs.types.Tables.{Table}
use Rattle.go_model.specs.declared.types.term.Term.{Term, roll-Term, fold-Term}
use Rattle.go_model.specs.declared.types.term.Field.{Field, Field-F, roll-Field, fold-Field}
use Rattle.go_model.specs.declared.types.term.Method.{Method, roll-Method, fold-Method}
use Rattle.go_model.specs.declared.types.term.Signature.{Signature, roll-Signature, fold-Signature}
use Rattle.go_model.specs.types.Underlying.{under}

abbrev pub untagged_step : Field-F Term Field Method Signature → Field
untagged_step f = roll-Field (record { sel = f.sel; embedded = f.embedded; term = f.term; tag = [] })

abbrev pub untagged : Term → Term
untagged = fold-Term Term Field Method Signature roll-Term untagged_step roll-Method roll-Signature

abbrev pub untagged_field : Field → Field
untagged_field = fold-Field Term Field Method Signature roll-Term untagged_step roll-Method roll-Signature

abbrev pub untagged_method : Method → Method
untagged_method = fold-Method Term Field Method Signature roll-Term untagged_step roll-Method roll-Signature

abbrev pub untagged_signature : Signature → Signature
untagged_signature = fold-Signature Term Field Method Signature roll-Term untagged_step roll-Method roll-Signature

-- the underlying type
abbrev pub underlying : Table → Term → Term
underlying T t = roll-Term (under T t)

-- the underlying type without tags
abbrev pub bare : Table → Term → Term
bare T t = untagged (underlying T t)
