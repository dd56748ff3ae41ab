use Rattle.go_selectors.proofs.Listing.{next_listing}
use Rattle.go_selectors.proofs.method_sets.listed.Goals as goal

pub loop-preserved : goal.loop-preserved
loop-preserved c = next_listing c.args.candidates c.loop.candidates c.pop_first.new.self c.in-Some.sel c.in-Some.candidate c.loop.methods c.add_method.new.methods c.in-Some.ensures.removal c.in-Some.ensures.value c.in-Some.ensures.updates c.loop.invariant c.in_ok-add_method-in-Some.ensures
