-- Why packages have no canonical order.
use Rattle.std.specs.Prelude.{ℕ, List}
use Rattle.go_imports.specs.Orders.{IsLeastOnCycle}
use Rattle.go_imports.specs.declared.order.OrderError.{OrderError}
use Rattle.go_imports.specs.declared.order.OrderError.TheVariants as error

-- the least package on a cycle is named; want of memory may come at any time
abbrev pub OrderCause : List (List ℕ) → OrderError → Type 0
OrderCause graph (error.Cycle n) = IsLeastOnCycle graph n
OrderCause graph error.NoMemory = Unit {0}
