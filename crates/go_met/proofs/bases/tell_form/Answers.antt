use Rattle.std.proofs.Common.{subst, sym}
use Rattle.std.proofs.lemmas.Result.{on_ok_weaker}
use Rattle.go_declarations.specs.Forms.{form_of}
use Rattle.go_declarations.specs.Listings.{declarations_of}
use Rattle.go_declarations.specs.declared.form.Form.{Form}
use Rattle.go_declared.specs.declared.methods.MethodRow.{MethodRow}
use Rattle.std.proofs.Common.{List}
use Rattle.go_met.proofs.BasesOfAll.{form_told}
use Rattle.go_met.specs.inner.ToldBases.{TellsForm, TellsType}
use Rattle.go_met.proofs.bases.tell_form.Goals as goal

pub returns-else-not-is_first : goal.returns-else-not-is_first
returns-else-not-is_first c =
    let ds = declarations_of c.args.declarations.now in
    let s = c.in-Definition.spec.now in
    let old = c.args.told.now.items in
    let new = c.tell_type.new.told.items in
    on_ok_weaker c.tell_type.result (λ told.
    subst (λ (f : Form). TellsForm ds c.args.names.now c.args.methods.now c.args.number (form_of f) old new) (sym c.in-Definition.is)
    (form_told ds c.args.names.now c.args.methods.now c.args.number s old new (subst (λ (rows : List MethodRow). TellsType ds s.name.text rows old new) c.of_type.ensures told))) c.tell_type.ensures
