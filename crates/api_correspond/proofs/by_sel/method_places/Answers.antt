use Rattle.std.proofs.Common.{map, ap, get_or}
use Rattle.go_model.specs.types.MethodSets.{method_sel}
use Rattle.api_correspond.proofs.Selected.{item_at, places_all, places_more, no_places}
use Rattle.api_correspond.proofs.by_sel.method_places.Goals as goal

pub loop-at-init : goal.loop-at-init
loop-at-init c = no_places (map method_sel c.args.methods.now) c.new-places.result c.new-places.ensures.empty

pub loop-at-preserved : goal.loop-at-preserved
loop-at-preserved c = places_more (map method_sel c.args.methods.now) (method_sel (get_or c.args.methods.now c.loop-at.at c.index-methods-at.result)) c.loop-at.at c.loop-at.places c.add_place.new.places (item_at method_sel c.args.methods.now c.loop-at.at (get_or c.args.methods.now c.loop-at.at c.index-methods-at.result) c.loop-at-test.true (ap (get_or c.args.methods.now c.loop-at.at) c.index-methods-at.is)) c.loop-at.invariant c.in_ok-add_place.ensures

pub returns : goal.returns
returns c = places_all method_sel c.args.methods.now c.loop-at.at c.loop-at.places c.loop-at-test.false c.loop-at.invariant
