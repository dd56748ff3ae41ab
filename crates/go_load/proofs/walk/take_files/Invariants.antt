use Rattle.std.proofs.Common.{◌≡◌, ◌≤◌}
use Rattle.go_model.specs.files.Trees.{IsFolderPath}
use Rattle.go_outside.specs.Faults.{Told}
use Rattle.go_load.specs.inner.Steps.{IsKept}
use Rattle.go_load.proofs.CountedEvents.{Taking}
use Rattle.go_load.proofs.walk.take_files.Given as goal

abbrev pub invariant-loop : goal.invariant-loop
invariant-loop g l = record {
  later : g.F.Files.faults l.fn.files ≤ g.F.Files.faults l.files;
  same : g.F.Files.told l.files ≡ g.F.Files.told l.fn.files;
  taking : Told (g.F.Files.told l.files) (λ m. Taking m l.at l.folder l.fn.names.keys l.names.keys l.fn.taken l.taken);
  kept : IsFolderPath l.folder → IsKept l.fn.taken → IsKept l.taken;
}
