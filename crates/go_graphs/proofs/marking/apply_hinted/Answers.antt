use Rattle.go_graphs.specs.inner.Marking.{follows_itself}
use Rattle.go_graphs.proofs.Flagging.{follows_next}
use Rattle.go_graphs.proofs.marking.apply_hinted.Goals as goal

pub loop-hint-preserved : goal.loop-hint-preserved
loop-hint-preserved g c = follows_next g.R.Rule.why c.args.rows.now c.args.flags.now c.loop-hint.flags c.apply.new.flags _ c.apply.result c.loop-hint.invariant c.apply.ensures

pub loop-hint-init : goal.loop-hint-init
loop-hint-init g c = follows_itself
