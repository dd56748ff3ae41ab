use Rattle.go_imports.proofs.GrowingSets.{grows_inserted, order, texts_tie}
use Rattle.go_met.proofs.shared_names.add_name.Goals as goal

pub returns : goal.returns
returns c = grows_inserted order texts_tie _ _ c.args.name c.in_ok-insert.ensures.keys
