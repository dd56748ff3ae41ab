use Rattle.go_graphs.proofs.Flagging.{closed_all, follows_then}
use Rattle.go_graphs.proofs.marking.close.Goals as goal

pub passes-preserved : goal.passes-preserved
passes-preserved g c = follows_then g.R.Rule.why c.args.rows.now c.passes.invariant c.apply_each.ensures.follows

pub returns : goal.returns
returns g c = record {
  follows = follows_then g.R.Rule.why c.args.rows.now c.passes.invariant c.apply_each.ensures.follows;
  closed = closed_all g.R.Rule.why c.args.rows.now c.passes.flags c.apply_each.new.flags c.passes-test.ensures.passed;
}
