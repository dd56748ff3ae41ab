-- Inexact constants that depend on none that is lost.
use Rattle.std.specs.Prelude.{◌≡◌, ℕ, Bool, false, List}
use Rattle.go_base.specs.Lists.{Has}
use Rattle.go_graphs.specs.Flags.{is_flagged}
use Rattle.go_graphs.specs.Walks.{row_of}
use Rattle.go_inexact.specs.Values.{IsInexactForm}
use Rattle.go_package_scopes.specs.PackageScopes.{at_declaration}
use Rattle.go_rules.specs.Scopes.{Scopes, env_of}
use Rattle.go_typings.specs.Assignments.{At}
use Rattle.go_typings.specs.Declarations.{Declaration}

abbrev pub NoneIsLost : List Bool → List ℕ → Type 0
NoneIsLost lost row = (m : ℕ) → Has row m → is_flagged lost m ≡ false

-- the declaration of this number, in scopes where it stands
abbrev pub IsInexactThere : Scopes → List Declaration → List (List ℕ) → List Bool → ℕ → Type 0
IsInexactThere c ds rows lost n = At ds n (λ d. NoneIsLost lost (row_of rows n) × IsInexactForm (env_of (at_declaration c d)) d.form)
