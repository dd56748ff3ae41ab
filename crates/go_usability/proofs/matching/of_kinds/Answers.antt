use Rattle.std.proofs.Common.{refl}
use Rattle.go_usability.proofs.Pairs.{kinds_some, kinds_none}
use Rattle.go_usability.proofs.matching.of_kinds.Goals as goal

pub returns-in-Some : goal.returns-in-Some
returns-in-Some c = (c.in-Some.kind, refl, kinds_some c.args.left c.args.right c.in-Some.kind c.in-Some.ensures)

pub returns-in-None : goal.returns-in-None
returns-in-None c = kinds_none c.args.left c.args.right c.in-None.ensures
