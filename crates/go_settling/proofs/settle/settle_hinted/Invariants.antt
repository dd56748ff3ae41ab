use Rattle.go_settling.specs.Settling.{AreFromBelow}
use Rattle.go_settling.specs.inner.Passes.{IsSamePackage}
use Rattle.go_settling.proofs.settle.settle_hinted.Given as goal

abbrev pub invariant-loop-hint : goal.invariant-loop-hint
invariant-loop-hint g l = record {
  same : IsSamePackage (g.G.Giver.setting l.initial.giver) (g.G.Giver.setting l.giver) (g.G.Giver.source l.initial.giver) (g.G.Giver.source l.giver);
  held : g.G.Giver.holds l.giver;
  below : AreFromBelow (g.G.Giver.setting l.initial.giver) (g.G.Giver.source l.initial.giver) (g.G.Giver.entries l.giver);
}
