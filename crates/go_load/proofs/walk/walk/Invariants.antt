use Rattle.std.proofs.Common.{◌≡◌, ◌≤◌}
use Rattle.go_outside.specs.Faults.{Told}
use Rattle.go_load.specs.inner.Steps.{IsKept, ArePlaced}
use Rattle.go_load.proofs.WalkState.{State}
use Rattle.go_load.proofs.walk.walk.Given as goal

abbrev pub invariant-loop : goal.invariant-loop
invariant-loop g l = record {
  later : g.F.Files.faults l.fn.files ≤ g.F.Files.faults l.files;
  same : g.F.Files.told l.files ≡ g.F.Files.told l.fn.files;
  state : Told (g.F.Files.told l.files) (λ m. State m l.kind l.root l.pending.keys l.taken);
  kept : IsKept l.taken;
  placed : ArePlaced l.pending.keys;
}
