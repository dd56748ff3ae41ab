use Rattle.std.proofs.Common.{◌≡◌, ◌≤◌, ◌+◌, ◌++◌, length}
use Rattle.std.specs.Vec.Iter.{into_iter_items}
use Rattle.go_exposed.specs.OfferedWorlds.{IsWorldOf}
use Rattle.go_work.specs.Answers.{sources}
use Rattle.go_work.specs.KeptUnits.{AreKept}
use Rattle.go_work.specs.inner.NextUnits.{AreTaken}
use Rattle.go_work.proofs.in_turn.in_turn.Given as goal

abbrev pub invariant-loop-unit : goal.invariant-loop-unit
invariant-loop-unit g l = record {
  taken : AreTaken l.bits l.yielded l.checked;
  typed : IsWorldOf l.bits (sources l.yielded) l.checked.world;
  kept : AreKept l.bits l.yielded l.checked.skipped;
  number : l.number ≡ length l.yielded;
  parts : l.yielded ++ into_iter_items l.unit-iterator ≡ l.fn.units.packages;
  steps : l.steps ≤ l.initial.steps + l.number;
}
