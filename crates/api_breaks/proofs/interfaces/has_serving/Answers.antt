use Rattle.std.proofs.Common.{take, ◌+◌, get_or, subst}
use Rattle.std.proofs.lemmas.List.{take_more}
use Rattle.go_selectors.specs.Answers.{Decides}
use Rattle.api_breaks.specs.inner.Interfaces.{ServesAt}
use Rattle.api_breaks.proofs.InterfaceLosses.{no_place_yet, serving_found, no_serving}
use Rattle.api_breaks.proofs.interfaces.has_serving.Goals as goal

pub loop-at-init : goal.loop-at-init
loop-at-init c = λ h. h.1

pub returns-then-serves_at : goal.returns-then-serves_at
returns-then-serves_at c = serving_found c.args.world.now c.args.methods.now c.args.method.now (get_or c.places_at-same.result.now c.loop-at.at-index 0) (subst (λ b. Decides b (ServesAt c.args.world.now c.args.methods.now c.args.method.now (get_or c.places_at-same.result.now c.loop-at.at-index 0))) c.if-serves_at.true c.serves_at.ensures)

pub loop-at-preserved : goal.loop-at-preserved
loop-at-preserved c = no_place_yet c.args.world.now c.args.methods.now c.args.method.now (take c.loop-at.at-index c.places_at-same.result.now) (take (c.loop-at.at-index + 1) c.places_at-same.result.now) (get_or c.places_at-same.result.now c.loop-at.at-index 0) (take_more c.places_at-same.result.now c.loop-at.at-index 0 c.loop-at-test.true) c.loop-at.invariant (subst (λ b. Decides b (ServesAt c.args.world.now c.args.methods.now c.args.method.now (get_or c.places_at-same.result.now c.loop-at.at-index 0))) c.if-serves_at.false c.serves_at.ensures)

pub returns : goal.returns
returns c = no_serving c.args.world.now c.args.methods.now c.args.method.now c.args.places.now c.places_at-same.result.now c.loop-at.at-index c.requires c.places_at-same.ensures c.loop-at-test.false c.loop-at.invariant
