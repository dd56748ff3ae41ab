use Rattle.go_selectors.specs.Names.{same_name, same_name_is}
use Rattle.go_selectors.proofs.Keys.{adds-insert}
use Rattle.api_correspond.proofs.embedded.add.Goals as goal

pub returns : goal.returns
returns c = adds-insert same_name same_name_is c.args.names.now.keys _ c.args.name c.in_ok-insert.field-0 c.in_ok-insert.ensures.keys c.in_ok-insert.ensures.added
