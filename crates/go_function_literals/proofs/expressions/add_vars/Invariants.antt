use Rattle.std.proofs.Common.{◌≡◌, ◌++◌, map, drop}
use Rattle.go_function_literals.specs.Places.{joined, var_places}
use Rattle.go_function_literals.proofs.expressions.add_vars.Given as goal

abbrev pub invariant-loop-spec : goal.invariant-loop-spec
invariant-loop-spec l = l.found ++ joined (map var_places (drop l.spec-index l.specs)) l.height ≡ l.initial.found ++ joined (map var_places l.specs) l.height
