use Rattle.go_imports.proofs.Members.{grows_placed}
use Rattle.go_imports.proofs.order.add_ready.Goals as goal

pub returns : goal.returns
returns c = grows_placed _ _ c.args.node c.in_ok-insert.ensures.keys
