use Rattle.go_declarations.specs.inner.Repeating.{given_by}
use Rattle.go_declarations.proofs.Repeated.{listed_next}
use Rattle.go_local_specs.proofs.listing.push_constants.Goals as goal

pub loop-place-preserved : goal.loop-place-preserved
loop-place-preserved c =
    listed_next c.args.file c.loop-place.place c.loop-place.listed c.push.new.self c.constants.result (given_by c.loop-place.given) c.index-specs-place.result (given_by c.giver-given.result) c.args.specs.now _
    c.in_ok-push.ensures.ok c.constants.ensures.spec c.constants.ensures.place c.giver-given.ensures c.loop-place-test.true c.index-specs-place.is c.loop-place.invariant
