use Rattle.go_types.specs.go_selectors.Names.{same_name, same_name_is}
use Rattle.go_types.proofs.go_selectors_proofs.Keys.{adds-insert}
use Rattle.go_usability.proofs.worklist.add.Goals as goal

pub returns : goal.returns
returns c = adds-insert same_name same_name_is c.args.names.now.keys _ c.args.name c.in_ok-insert.field-0 c.in_ok-insert.ensures.keys c.in_ok-insert.ensures.added
