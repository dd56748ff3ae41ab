use Rattle.std.proofs.Common.{[]}
use Rattle.api_judge.proofs.listing.tell_all.Goals as goal
use Rattle.api_lines.proofs.Growing.{grows_next}
use Rattle.api_subjects.specs.Told.{IsTold}

pub loop-broken-preserved : goal.loop-broken-preserved
loop-broken-preserved c =
    grows_next (IsTold c.args.old.now c.args.new.now) c.args.breaks.now c.loop-broken.broken-index c.broken-item.result [] c.loop-broken.all.items c.tell.new.all.items c.loop-broken-test.true c.broken-item.is c.loop-broken.invariant c.in_ok-tell.ensures
