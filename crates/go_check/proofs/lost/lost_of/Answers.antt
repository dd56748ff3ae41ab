use Rattle.go_met.proofs.MetFlags.{moved_on}
use Rattle.go_check.proofs.MovedScopes.{moved_scope}
use Rattle.go_check.proofs.lost.lost_of.Goals as goal

pub returns-then-not-all_flagged-clause-lost : goal.returns-then-not-all_flagged-clause-lost
returns-then-not-all_flagged-clause-lost c = c.sifted.ensures.lost

pub returns-in-Some-clause-lost : goal.returns-in-Some-clause-lost
returns-in-Some-clause-lost c s u a same pathed scope standing = rw c.in-Some.is at c.in_ok-lost.ensures.some s u a (c.in_ok-order.ensures.order s u a same pathed scope) standing

pub returns-clause-lost : goal.returns-clause-lost
returns-clause-lost c s u a same pathed scope standing = c.sifted-in-None.ensures.lost s u a same pathed (moved_scope s u a _ _ c.order.ensures.moved scope) standing

pub returns-clause-moved : goal.returns-clause-moved
returns-clause-moved c = moved_on c.args.env.now c.order.new.env c.sifted-in-None.new.env c.order.ensures.moved c.sifted-in-None.ensures.moved
