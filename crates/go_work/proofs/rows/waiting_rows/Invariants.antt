use Rattle.std.proofs.Common.{◌≡◌, ◌++◌, map}
use Rattle.std.specs.Vec.Iter.{into_iter_items}
use Rattle.go_work.specs.inner.Rows.{waiting_row}
use Rattle.go_work.proofs.rows.waiting_rows.Given as goal

abbrev pub invariant-loop-unit : goal.invariant-loop-unit
invariant-loop-unit l = record {
  rows : l.rows.items ≡ map waiting_row l.yielded;
  parts : l.yielded ++ into_iter_items l.unit-iterator ≡ l.fn.units;
}
