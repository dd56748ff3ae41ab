use Rattle.go_settling.proofs.Passing.{below_now, below_then, count_now, same_then}
use Rattle.go_settling.proofs.settle.settle_hinted.Goals as goal

pub settle_one-requires-clause-count : goal.settle_one-requires-clause-count
settle_one-requires-clause-count g c =
    count_now (g.G.Giver.setting c.args.giver.now) (g.G.Giver.setting c.loop-hint.giver) (g.G.Giver.source c.args.giver.now) (g.G.Giver.source c.loop-hint.giver) c.args.count c.loop-hint.invariant.same c.requires.count

pub settle_one-requires-clause-below : goal.settle_one-requires-clause-below
settle_one-requires-clause-below g c =
    below_now (g.G.Giver.setting c.args.giver.now) (g.G.Giver.setting c.loop-hint.giver) (g.G.Giver.source c.args.giver.now) (g.G.Giver.source c.loop-hint.giver) (g.G.Giver.entries c.loop-hint.giver) c.loop-hint.invariant.same c.loop-hint.invariant.below

pub loop-hint-preserved : goal.loop-hint-preserved
loop-hint-preserved g c = record {
  same = same_then (g.G.Giver.setting c.args.giver.now) (g.G.Giver.setting c.loop-hint.giver) (g.G.Giver.setting c.settle_one.new.giver) (g.G.Giver.source c.args.giver.now) (g.G.Giver.source c.loop-hint.giver) (g.G.Giver.source c.settle_one.new.giver) c.loop-hint.invariant.same c.settle_one.ensures.same;
  held = c.in_default.ensures.held;
  below = below_then (g.G.Giver.setting c.args.giver.now) (g.G.Giver.setting c.loop-hint.giver) (g.G.Giver.source c.args.giver.now) (g.G.Giver.source c.loop-hint.giver) (g.G.Giver.entries c.settle_one.new.giver) c.loop-hint.invariant.same c.settle_one.ensures.below;
}

pub returns-in-Err : goal.returns-in-Err
returns-in-Err g c = record {
  held = tt;
  same = same_then (g.G.Giver.setting c.args.giver.now) (g.G.Giver.setting c.loop-hint.giver) (g.G.Giver.setting c.settle_one.new.giver) (g.G.Giver.source c.args.giver.now) (g.G.Giver.source c.loop-hint.giver) (g.G.Giver.source c.settle_one.new.giver) c.loop-hint.invariant.same c.settle_one.ensures.same;
  below = below_then (g.G.Giver.setting c.args.giver.now) (g.G.Giver.setting c.loop-hint.giver) (g.G.Giver.source c.args.giver.now) (g.G.Giver.source c.loop-hint.giver) (g.G.Giver.entries c.settle_one.new.giver) c.loop-hint.invariant.same c.settle_one.ensures.below;
}
