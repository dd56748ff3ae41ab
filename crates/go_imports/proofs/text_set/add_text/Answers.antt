use Rattle.go_imports.proofs.GrowingSets.{order, texts_tie, grows_inserted}
use Rattle.go_imports.proofs.text_set.add_text.Goals as goal

pub returns : goal.returns
returns c = grows_inserted order texts_tie _ _ c.args.text c.in_ok-insert.ensures.keys
