use Rattle.api_correspond.proofs.Places.{at_get}
use Rattle.api_forced.proofs.graph.followed.Goals as goal

pub returns-in_ok-pairs-in-Some : goal.returns-in_ok-pairs-in-Some
returns-in_ok-pairs-in-Some c = (c.in-Some.pair.now, at_get c.args.table.now.pairs.items c.args.at c.in-Some.pair.now c.in-Some.ensures.0 c.in-Some.ensures.1, c.in_ok-pairs-in-Some.ensures)
