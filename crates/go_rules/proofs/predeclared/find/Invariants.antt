use Rattle.std.proofs.Common.{◌≡◌, drop}
use Rattle.go_rules.specs.Universe.{found_in}
use Rattle.go_rules.specs.inner.Rows.{rows_of}
use Rattle.go_rules.proofs.predeclared.find.Given as goal

abbrev pub invariant-loop-row : goal.invariant-loop-row
invariant-loop-row l = found_in (rows_of (drop l.row-index l.rows)) l.name ≡ found_in (rows_of l.rows) l.name
