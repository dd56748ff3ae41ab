use Rattle.std.proofs.Common.{◌≡◌, ◌++◌}
use Rattle.std.specs.Vec.Iter.{into_iter_items}
use Rattle.go_work.specs.inner.Rows.{kept_in}
use Rattle.go_work.proofs.rows.kept_rows.Given as goal

abbrev pub invariant-loop-row : goal.invariant-loop-row
invariant-loop-row l = record {
  kept : l.kept ≡ kept_in l.yielded;
  parts : l.yielded ++ into_iter_items l.row-iterator ≡ l.fn.rows.items;
}
