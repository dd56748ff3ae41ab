-- Causes that are other declarations.
use Rattle.std.specs.Prelude.{◌≡◌, ℕ, List}
use Rattle.go_exposed.specs.Causes.{first_name, shown_names}
use Rattle.go_exposed.specs.declared.skipped.Cause.{Cause}
use Rattle.go_exposed.specs.declared.skipped.Cause.TheVariants as cause
use Rattle.go_typings.specs.Assignments.{At}
use Rattle.go_typings.specs.Declarations.{Declaration}

-- the cause is the declaration of this number, by its first name
abbrev pub IsBy : List Declaration → ℕ → Cause → Type 0
IsBy ds m (cause.By name) = At ds m (λ d. first_name (shown_names d.form) ≡ name)
IsBy ds m cause.Number = ⊥
IsBy ds m cause.ConstantType = ⊥
IsBy ds m cause.ImportNotFound = ⊥
