use Rattle.std.proofs.Common.{take, ◌+◌, get_or, refl}
use Rattle.std.proofs.lemmas.List.{take_more}
use Rattle.api_breaks.proofs.Telling.{told_none, told_more, told_all}
use Rattle.api_further_breaks.specs.inner.Implementing.{KeepsAt, IsLostAt}
use Rattle.api_further_breaks.proofs.implementing.push_places.Goals as goal

pub loop-at-init : goal.loop-at-init
loop-at-init c = told_none (KeepsAt c.args.sealed.now c.args.callable.now c.args.called.now) (IsLostAt c.args.sealed.now c.args.callable.now c.args.called.now) c.args.losses.now.items

pub loop-at-preserved : goal.loop-at-preserved
loop-at-preserved c = told_more (KeepsAt c.args.sealed.now c.args.callable.now c.args.called.now) (IsLostAt c.args.sealed.now c.args.callable.now c.args.called.now) (take c.loop-at.at-index c.args.places.now) (take (c.loop-at.at-index + 1) c.args.places.now) (get_or c.args.places.now c.loop-at.at-index 0) c.args.losses.now.items c.loop-at.losses.items c.push_at.new.losses.items (take_more c.args.places.now c.loop-at.at-index 0 c.loop-at-test.true) c.loop-at.invariant c.in_ok-push_at.ensures

pub returns : goal.returns
returns c = told_all (KeepsAt c.args.sealed.now c.args.callable.now c.args.called.now) (IsLostAt c.args.sealed.now c.args.callable.now c.args.called.now) c.args.places.now c.args.places.now c.loop-at.at-index c.args.losses.now.items c.loop-at.losses.items refl c.loop-at-test.false c.loop-at.invariant
