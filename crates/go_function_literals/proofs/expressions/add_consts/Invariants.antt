use Rattle.std.proofs.Common.{◌≡◌, ◌++◌, map, drop}
use Rattle.go_function_literals.specs.Places.{const_places, joined}
use Rattle.go_function_literals.proofs.expressions.add_consts.Given as goal

abbrev pub invariant-loop-spec : goal.invariant-loop-spec
invariant-loop-spec l = l.found ++ joined (map const_places (drop l.spec-index l.specs)) l.height ≡ l.initial.found ++ joined (map const_places l.specs) l.height
