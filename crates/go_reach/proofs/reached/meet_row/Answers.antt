use Rattle.go_reach.proofs.Searching.{met_more}
use Rattle.go_reach.proofs.reached.meet_row.Goals as goal

pub loop-number-preserved : goal.loop-number-preserved
loop-number-preserved c =
    met_more c.args.row.now c.loop-number.number-index c.args.flags.now c.args.pending.now.items c.loop-number.flags c.loop-number.pending.items c.meet.new.flags c.meet.new.pending.items c.loop-number-test.true c.loop-number.auto.flags
    c.loop-number.invariant c.in_ok-meet.ensures
