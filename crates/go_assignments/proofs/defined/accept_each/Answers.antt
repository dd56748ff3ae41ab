use Rattle.std.proofs.Common.{refl}
use Rattle.go_assignments.proofs.Accepting.{goes_begin, goes_next, goes_no_further, goes_whole, outer_next, outer_same, still_opened}
use Rattle.go_assignments.proofs.defined.accept_each.Goals as goal

pub loop-offer-init : goal.loop-offer-init
loop-offer-init c = record { goes = goes_begin c.args.env.now c.args.offers.now; kept = outer_same c.args.env.now c.args.env.now c.requires refl }

pub accept-requires : goal.accept-requires
accept-requires c = still_opened c.args.env.now c.loop-offer.env c.loop-offer.invariant.kept

pub loop-offer-preserved : goal.loop-offer-preserved
loop-offer-preserved c = record {
  goes =
      goes_next c.args.env.now c.args.offers.now c.loop-offer.offer-index c.loop-offer.env c.loop-offer.any c.loop-offer.invariant.goes c.offer-item.result c.loop-offer-test.true c.offer-item.is c.accept.new.env c.in_ok-new.new c.either-any.result c.in_ok-new.ensures.accepts c.either-any.ensures;
  kept = outer_next c.args.env.now c.loop-offer.env c.accept.new.env c.loop-offer.invariant.kept c.accept.ensures.kept;
}

pub returns-in_err-new : goal.returns-in_err-new
returns-in_err-new c = record {
  accepts =
      goes_no_further c.args.env.now c.args.offers.now c.loop-offer.offer-index c.loop-offer.env c.loop-offer.any c.loop-offer.invariant.goes c.offer-item.result c.loop-offer-test.true c.offer-item.is c.accept.new.env c.accept.new.env c.in_err-new.field-0.0 c.from_residual.result c.from_residual.ensures.1 c.in_err-new.ensures.accepts;
  kept = outer_next c.args.env.now c.loop-offer.env c.accept.new.env c.loop-offer.invariant.kept c.accept.ensures.kept;
}

pub returns : goal.returns
returns c = record {
  accepts = goes_whole c.args.env.now c.args.offers.now c.loop-offer.offer-index c.loop-offer.env c.loop-offer.any c.loop-offer.invariant.goes c.loop-offer-test.false;
  kept = c.loop-offer.invariant.kept;
}
