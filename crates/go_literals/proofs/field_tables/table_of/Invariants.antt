use Rattle.std.proofs.Common.{◌≤◌, length, drop}
use Rattle.go_literals.specs.inner.FieldTables.{AreTabled}
use Rattle.go_literals.proofs.field_tables.table_of.Given as goal

abbrev pub invariant-loop-left : goal.invariant-loop-left
invariant-loop-left l = (l.left ≤ length l.fields) × AreTabled (drop l.left l.fields) l.table

abbrev pub decreases-loop-left : goal.decreases-loop-left
decreases-loop-left l = l.left
