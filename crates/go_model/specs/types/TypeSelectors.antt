-- The selectors of fields and methods that stand in a type.
-- Own: parts of a type.
use Rattle.std.specs.Prelude.{List, [], ◌∷◌, ◌++◌}
use Rattle.go_model.specs.declared.types.names.Sel.{Sel}
use Rattle.go_model.specs.declared.types.term.Term.{Term, Term-F, fold-Term}
use Rattle.go_model.specs.declared.types.term.Field.{Field-F}
use Rattle.go_model.specs.declared.types.term.Method.{Method-F}
use Rattle.go_model.specs.declared.types.term.Signature.{Signature, Signature-F, fold-Signature}
use Rattle.go_base.specs.Gathered.{gather}

abbrev pub Sels : Type 0
Sels = List Sel

abbrev pub sels_of : List Sels → Sels
sels_of xs = gather (λ x. x) xs

abbrev pub sel_step : Term-F Sels Sels Sels Sels → Sels
sel_step (Term-F.Plain b) = []
sel_step (Term-F.Named n) = []
sel_step (Term-F.Pointer e) = e
sel_step (Term-F.Slice e) = e
sel_step (Term-F.Array n e) = e
sel_step (Term-F.Map k e) = k ++ e
sel_step (Term-F.Chan d e) = e
sel_step (Term-F.Func g) = g
sel_step (Term-F.Struct fs) = sels_of fs
sel_step (Term-F.Interface ms) = sels_of ms

abbrev pub field_sels : Field-F Sels Sels Sels Sels → Sels
field_sels f = f.sel ∷ f.term

abbrev pub method_sels : Method-F Sels Sels Sels Sels → Sels
method_sels m = m.sel ∷ m.signature

abbrev pub parameter_sels : Signature-F Sels Sels Sels Sels → Sels
parameter_sels g = sels_of g.params ++ sels_of g.results

-- the selectors in a type
abbrev pub selectors : Term → Sels
selectors = fold-Term Sels Sels Sels Sels sel_step field_sels method_sels parameter_sels

-- the selectors in a signature
abbrev pub signature_selectors : Signature → Sels
signature_selectors = fold-Signature Sels Sels Sels Sels sel_step field_sels method_sels parameter_sels
