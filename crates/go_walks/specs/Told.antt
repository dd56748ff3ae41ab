-- Answers that tell of expressions, as tests and look-ups.
-- Own: words of the contracts.
use Rattle.std.specs.Prelude.{Bool, true, false, Option, None, Some, Result, Ok, Err}
use Rattle.go_base.specs.declared.memory.NoMemory.{NoMemory as Starved}
use Rattle.go_expr.specs.go_type_terms.declared.error.ExprError.{ExprError}
use Rattle.go_expr.specs.go_type_terms.declared.error.ExprError.TheVariants.{NoMemory, Untyped}

-- no memory was left
abbrev pub starved : Starved
starved = record {}

abbrev pub holds_by : Result (Unit {0}) ExprError → Result Bool Starved
holds_by (Ok u) = Ok true
holds_by (Err Untyped) = Ok false
holds_by (Err NoMemory) = Err starved

abbrev pub found_by : {A : Type 0} → Result A ExprError → Result (Option A) Starved
found_by (Ok x) = Ok (Some x)
found_by (Err Untyped) = Ok None
found_by (Err NoMemory) = Err starved
