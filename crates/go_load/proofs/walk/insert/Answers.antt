use Rattle.go_model.proofs.TextSets.{texts_grow}
use Rattle.go_load.proofs.walk.insert.Goals as goal

pub returns : goal.returns
returns c = texts_grow _ _ c.args.text c.in_ok-insert.ensures.keys
