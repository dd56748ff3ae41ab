use Rattle.std.proofs.Common.{◌≡◌, ◌++◌, map, drop}
use Rattle.go_function_literals.specs.DeclarationPlaces.{decl_places}
use Rattle.go_function_literals.specs.Places.{joined}
use Rattle.go_function_literals.proofs.declarations.add_decls.Given as goal

abbrev pub invariant-loop-decl : goal.invariant-loop-decl
invariant-loop-decl l = l.found ++ joined (map decl_places (drop l.decl-index l.decls)) l.height ≡ l.initial.found ++ joined (map decl_places l.decls) l.height
