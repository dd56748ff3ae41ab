use Rattle.std.proofs.Common.{◌≡◌, ◌++◌, length, take}
use Rattle.std.specs.Vec.Iter.{into_iter_items}
use Rattle.go_work.specs.inner.Progresses.{IsWithin}
use Rattle.go_work.proofs.progress.settle_all.Given as goal

abbrev pub invariant-loop-outcome : goal.invariant-loop-outcome
invariant-loop-outcome l = record {
  within : IsWithin l.plan l.level l.fn.progress.world l.fn.progress.end (take l.at l.numbers) l.progress;
  at : l.at ≡ length l.yielded;
  parts : l.yielded ++ into_iter_items l.outcome-iterator ≡ l.fn.found;
}
