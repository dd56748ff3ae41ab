use Rattle.std.proofs.Common.{◌≡◌, ◌≤◌, ◌+◌, ◌++◌, length}
use Rattle.std.specs.Vec.Iter.{into_iter_items}
use Rattle.go_work.specs.Answers.{sources}
use Rattle.go_work.specs.TypedUnits.{AreTypedUnits}
use Rattle.go_work.specs.inner.EarlierUnits.{AreTypedSoFar, StandBeside}
use Rattle.go_work.proofs.typed.all_typed.Given as goal

abbrev pub invariant-loop-unit : goal.invariant-loop-unit
invariant-loop-unit g l = record {
  typed : AreTypedSoFar l.typed;
  whole : AreTypedUnits l.typed;
  units : l.typed.units ≡ l.yielded;
  bits : l.typed.bits ≡ l.bits;
  beside : StandBeside l.bits (sources l.yielded) l.earlier;
  number : l.number ≡ length l.yielded;
  parts : l.yielded ++ into_iter_items l.unit-iterator ≡ l.fn.units.packages;
  steps : l.steps ≤ l.initial.steps + l.number;
}
