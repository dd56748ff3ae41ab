use Rattle.go_declared.proofs.Stands.{form_at_place}
use Rattle.go_declared.proofs.bases.form_there.Goals as goal

pub returns : goal.returns
returns c = λ name there. form_at_place c.args.declarations.now name c.args.place c.form_at.result there c.form_at.ensures
