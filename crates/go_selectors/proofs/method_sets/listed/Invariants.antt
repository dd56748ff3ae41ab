use Rattle.go_selectors.proofs.Listing.{Listing}
use Rattle.go_selectors.proofs.method_sets.listed.Given as goal

abbrev pub invariant-loop : goal.invariant-loop
invariant-loop l = Listing l.fn.candidates l.candidates l.methods
