use Rattle.std.proofs.Common.{◌≡◌, ◌++◌, map, drop}
use Rattle.go_function_literals.specs.DeclarationPlaces.{type_spec_places}
use Rattle.go_function_literals.specs.Places.{joined}
use Rattle.go_function_literals.proofs.declarations.add_type_specs.Given as goal

abbrev pub invariant-loop-spec : goal.invariant-loop-spec
invariant-loop-spec l = l.found ++ joined (map type_spec_places (drop l.spec-index l.specs)) l.height ≡ l.initial.found ++ joined (map type_spec_places l.specs) l.height
