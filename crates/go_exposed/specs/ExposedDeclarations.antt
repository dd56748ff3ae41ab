-- The declarations of a package that other modules see: those that they can name, and all that these depend on.
-- Public source: Go specification, "Exported identifiers"; documentation of Go's command line, "Internal Directories". That all of the
-- standard library is seen, and what a seen one depends on, is own.
use Rattle.std.specs.Prelude.{◌≡◌, ℕ, Bool, true, ◌&&◌, ◌||◌}
use Rattle.std.specs.List.{list_any}
use Rattle.go_typings.specs.go_rules.Environments.{is_exported}
use Rattle.go_syntax.specs.declared.name.Name.{Name}
use Rattle.go_typings.specs.Assignments.{At}
use Rattle.go_typings.specs.Declarations.{Form, declarations, names_of}
use Rattle.go_typings.specs.PackageWorlds.{is_public}
use Rattle.go_typings.specs.References.{DependsOn}
use Rattle.go_typings.specs.Sources.{PackageSource}

abbrev pub is_exported_name : Name → Bool
is_exported_name n = is_exported n.text

-- other modules can name what is declared: it has an exported name, in a public package; in the standard library all counts
abbrev pub is_offered : PackageSource → Form → Bool
is_offered u f = u.from_std || (is_public u && list_any is_exported_name (names_of f))

-- the declaration of this number is offered, or one that is seen depends on it
pub data IsExposed (u : PackageSource) : ℕ → Type 0 where
  exposed_by_name : {n : ℕ} → At (declarations u) n (λ d. is_offered u d.form ≡ true) → IsExposed u n
  exposed_through : {n : ℕ} (m : ℕ) → IsExposed u m → At (declarations u) m (λ d. DependsOn u d.form n) → IsExposed u n
