-- Which declarations other modules can name, one by one.
-- Own: words of the contracts.
use Rattle.std.specs.Prelude.{◌≡◌, ℕ, Bool, true, ◌&&◌, ◌||◌}
use Rattle.std.specs.List.{list_any}
use Rattle.go_exposed.specs.ExposedDeclarations.{is_exported_name, is_offered}
use Rattle.go_typings.specs.Assignments.{At}
use Rattle.go_typings.specs.Declarations.{Declaration, declarations, names_of}
use Rattle.go_typings.specs.Sources.{PackageSource}

-- in a package of the standard library or not, public or not
abbrev pub offers : Bool → Bool → Declaration → Bool
offers from_std public d = from_std || (public && list_any is_exported_name (names_of d.form))

-- the declaration of this number is offered
abbrev pub IsOfferedAt : PackageSource → ℕ → Type 0
IsOfferedAt u n = At (declarations u) n (λ d. is_offered u d.form ≡ true)
