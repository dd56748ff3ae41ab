-- Why a build expression was not read.
use Rattle.std.specs.Prelude.{ℕ, List}
use Rattle.go_model.specs.declared.files.build.ConstraintPart.{ConstraintPart}
use Rattle.go_model.specs.declared.files.build.Constraint.{Constraint}
use Rattle.go_model.specs.files.BuildConstraints.{IsOr, IsExpression}
use Rattle.go_tags.specs.declared.error.TagError.{TagError}
use Rattle.go_tags.specs.declared.error.TagError.TheVariants.{BadExpression, Twice, PlusBuild, NoMemory}

-- why some parts were not read
abbrev pub OrCause : List ConstraintPart → TagError → Type 0
OrCause parts BadExpression = (constraint : Constraint) → IsOr 256 parts constraint → ⊥
OrCause parts NoMemory = Unit {0}
OrCause parts Twice = ⊥
OrCause parts PlusBuild = ⊥

-- why a text was not read
abbrev pub ExpressionCause : List ℕ → TagError → Type 0
ExpressionCause text BadExpression = (constraint : Constraint) → IsExpression text constraint → ⊥
ExpressionCause text NoMemory = Unit {0}
ExpressionCause text Twice = ⊥
ExpressionCause text PlusBuild = ⊥
