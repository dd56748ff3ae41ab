-- What a declaration that is left out is shown as.
use Rattle.std.specs.Prelude.{◌≡◌, ℕ, List}
use Rattle.go_exposed.specs.Causes.{shown_names}
use Rattle.go_exposed.specs.declared.skipped.Skipped.{Skipped}
use Rattle.go_rules.specs.Asks.{texts}
use Rattle.go_typings.specs.Assignments.{At}
use Rattle.go_typings.specs.Declarations.{Declaration}
use Rattle.go_typings.specs.Refusals.{place_of}

abbrev pub IsShown : List Declaration → ℕ → Skipped → Type 0
IsShown ds n x = At ds n (λ d. (x.place ≡ place_of d) × (x.names ≡ texts (shown_names d.form)))
