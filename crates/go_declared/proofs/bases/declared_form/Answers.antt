use Rattle.std.proofs.Common.{◌∙◌, sym}
use Rattle.go_declared.proofs.Stands.{form_of_name}
use Rattle.go_declared.proofs.bases.declared_form.Goals as goal

pub returns-in-Some : goal.returns-in-Some
returns-in-Some c = form_of_name c.args.declarations.now c.args.names.now c.args.name.now c.in-Some.place c.form_at.result c.requires (sym c.in-Some.is ∙ c.get.ensures) c.form_at.ensures
