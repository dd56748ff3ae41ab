-- The rows of those on which declarations depend.
use Rattle.std.specs.Prelude.{◌≡◌, ℕ, List, map}
use Rattle.go_declaration_graph.specs.inner.NamedNumbers.{dependencies}
use Rattle.go_declared.specs.declared.methods.MethodRow.{MethodRow}
use Rattle.go_declared.specs.declared.names.NamePlace.{NamePlace}
use Rattle.go_rules.specs.Names.{Named}
use Rattle.go_typings.specs.Declarations.{Declaration}

abbrev pub HasDependencies : Named NamePlace → Named (List MethodRow) → List Declaration → List (List ℕ) → Type 0
HasDependencies names methods ds rows = rows ≡ map (λ d. dependencies names methods d.form) ds
