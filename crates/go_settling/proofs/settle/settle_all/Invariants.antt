use Rattle.go_settling.specs.Settling.{AreFromBelow}
use Rattle.go_settling.specs.inner.Passes.{IsSamePackage, empties}
use Rattle.go_settling.proofs.settle.settle_all.Given as goal

abbrev pub invariant-passes : goal.invariant-passes
invariant-passes g l = record {
  same : IsSamePackage (g.G.Giver.setting l.fn.giver) (g.G.Giver.setting l.giver) (g.G.Giver.source l.fn.giver) (g.G.Giver.source l.giver);
  held : g.G.Giver.holds l.giver;
  below : AreFromBelow (g.G.Giver.setting l.fn.giver) (g.G.Giver.source l.fn.giver) (g.G.Giver.entries l.giver);
}

abbrev pub decreases-passes : goal.decreases-passes
decreases-passes g l = empties l.count (g.G.Giver.entries l.giver)
