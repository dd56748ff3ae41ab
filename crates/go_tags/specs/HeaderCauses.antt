-- Why a file has no header.
-- Public source: "Build constraints" of Go's package go/build; that a plus line alone is refused is own.
use Rattle.std.specs.Prelude.{◌≡◌, ◌≢◌, ◌≤◌, ℕ, List, [], ◌∷◌, length, true}
use Rattle.go_model.specs.declared.files.build.Constraint.{Constraint}
use Rattle.go_model.specs.files.BuildConstraints.{IsExpression}
use Rattle.go_model.specs.files.Headers.{HasTwoBuildLines, HasBadExpression, HasPlusAlone, build_texts, has_plus_line}
use Rattle.go_tags.specs.declared.error.TagError.{TagError}
use Rattle.go_tags.specs.declared.error.TagError.TheVariants.{BadExpression, Twice, PlusBuild, NoMemory}

-- when each error comes: want of memory may come at any time
abbrev pub HasCause : List ℕ → TagError → Type 0
HasCause bytes BadExpression = HasBadExpression bytes
HasCause bytes Twice = HasTwoBuildLines bytes
HasCause bytes PlusBuild = HasPlusAlone bytes
HasCause bytes NoMemory = Unit {0}

-- the error is about the file
abbrev pub IsOwnCause : TagError → Type 0
IsOwnCause error = error ≢ NoMemory

-- why comments that begin their line give no constraint
abbrev pub ConstraintCause : List (List ℕ) → TagError → Type 0
ConstraintCause comments BadExpression = (text : List ℕ) × (build_texts comments ≡ text ∷ []) × ((constraint : Constraint) → IsExpression text constraint → ⊥)
ConstraintCause comments Twice = 2 ≤ length (build_texts comments)
ConstraintCause comments PlusBuild = (build_texts comments ≡ []) × (has_plus_line comments ≡ true)
ConstraintCause comments NoMemory = Unit {0}
