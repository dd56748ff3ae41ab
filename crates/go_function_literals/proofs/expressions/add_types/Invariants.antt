use Rattle.std.proofs.Common.{◌≡◌, ◌++◌, drop}
use Rattle.go_function_literals.specs.Places.{types_places}
use Rattle.go_function_literals.proofs.expressions.add_types.Given as goal

abbrev pub invariant-loop-type_ : goal.invariant-loop-type_
invariant-loop-type_ l = l.found ++ types_places (drop l.type_-index l.types) l.height ≡ l.initial.found ++ types_places l.types l.height
