use Rattle.std.proofs.Common.{◌∙◌}
use Rattle.go_sifting.proofs.NoneLost.{none_set, none_sifted}
use Rattle.go_sifting.proofs.settled.none_lost.Goals as goal

pub returns-clause-settled : goal.returns-clause-settled
returns-clause-settled c = c.in_ok-settled.ensures.yes c.if-not-settled.false

pub returns-clause-some : goal.returns-clause-some
returns-clause-some c s u a order stand = (
  c.in_ok-lost.ensures.size ∙ stand.size,
  none_sifted s u a c.args.order.now c.args.standing.now c.in_ok-lost.lost.items order stand (c.in_ok-settled.ensures.yes c.if-not-settled.false) (none_set _ c.in_ok-lost.lost.items c.in_ok-lost.ensures),
)
