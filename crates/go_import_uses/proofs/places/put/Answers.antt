use Rattle.go_imports.proofs.Members.{grows_placed}
use Rattle.go_import_uses.proofs.places.put.Goals as goal

pub returns : goal.returns
returns c = grows_placed _ _ c.args.place c.in_ok-insert.ensures.keys
