use Rattle.std.proofs.Common.{◌∙◌}
use Rattle.go_imports.proofs.Members.{appended}
use Rattle.go_imports.proofs.order.add.Goals as goal

pub returns : goal.returns
returns c = c.in_ok-insert.ensures.keys ∙ appended c.args.standing.now.keys c.args.node c.requires
