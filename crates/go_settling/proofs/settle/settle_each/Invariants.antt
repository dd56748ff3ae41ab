use Rattle.go_settling.specs.Settling.{AreFromBelow}
use Rattle.go_settling.specs.inner.Passes.{IsSamePackage, Passed}
use Rattle.go_settling.proofs.settle.settle_each.Given as goal

abbrev pub invariant-loop-number : goal.invariant-loop-number
invariant-loop-number g l = record {
  same : IsSamePackage (g.G.Giver.setting l.initial.giver) (g.G.Giver.setting l.giver) (g.G.Giver.source l.initial.giver) (g.G.Giver.source l.giver);
  held : g.G.Giver.holds l.giver;
  below : AreFromBelow (g.G.Giver.setting l.initial.giver) (g.G.Giver.source l.initial.giver) (g.G.Giver.entries l.giver);
  passed : Passed (g.G.Giver.setting l.initial.giver) (g.G.Giver.source l.initial.giver) (g.G.Giver.entries l.initial.giver) l.number l.moved (g.G.Giver.entries l.giver);
}
