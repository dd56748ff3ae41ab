use Rattle.std.proofs.Common.{◌≡◌, ℕ, [], length}
use Rattle.go_imports.specs.inner.Sorting.{row_of}
use Rattle.go_imports.proofs.order.empty_rows.Given as goal

abbrev pub invariant-loop : goal.invariant-loop
invariant-loop l = record { size : length l.rows.items ≡ l.counter; empty : (n : ℕ) → row_of l.rows.items n ≡ [] }
