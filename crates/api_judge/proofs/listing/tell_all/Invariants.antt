use Rattle.std.proofs.Common.{[], take}
use Rattle.go_base.specs.Growing.{Grows}
use Rattle.api_judge.specs.inner.Listings.{IsToldOf}
use Rattle.api_judge.proofs.listing.tell_all.Given as goal

abbrev pub invariant-loop-broken : goal.invariant-loop-broken
invariant-loop-broken l = Grows (IsToldOf l.old l.new (take l.broken-index l.breaks)) [] l.all.items
