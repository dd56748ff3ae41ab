-- The first part of a build expression's text.
use Rattle.std.specs.Prelude.{◌≡◌, ◌<◌, ◌≤◌, ℕ, Bool, false, ◌&&◌, ◌==◌, if◌then◌else◌, Option, None, Some, List, [], ◌∷◌, length, drop}
use Rattle.go_model.specs.declared.files.build.ConstraintPart.{ConstraintPart}
use Rattle.go_model.specs.declared.files.build.ConstraintPart.TheVariants as part
use Rattle.go_model.specs.files.BuildConstraints.{AreParts}
use Rattle.go_base.specs.Comments.{is_blank}
use Rattle.go_tags.specs.declared.error.TagError.{TagError}
use Rattle.go_tags.specs.declared.error.TagError.TheVariants.{BadExpression, Twice, PlusBuild, NoMemory}
use Rattle.go_tags.specs.declared.parts.Step.{Step}

-- the first byte is this one too
abbrev pub is_next : ℕ → List ℕ → Bool
is_next b [] = false
is_next b (x ∷ xs) = x == b

-- a blank or a sign at the start, with its length
abbrev pub sign_at : List ℕ → Option Step
sign_at [] = None
sign_at (b ∷ bs) =
    if is_blank b then Some (record { part = None; len = 1 })
    else (if b == 33 then Some (record { part = Some part.Not; len = 1 })
    else (if b == 40 then Some (record { part = Some part.Open; len = 1 })
    else (if b == 41 then Some (record { part = Some part.Close; len = 1 })
    else (if b == 124 && is_next 124 bs then Some (record { part = Some part.Or; len = 2 })
    else (if b == 38 && is_next 38 bs then Some (record { part = Some part.And; len = 2 })
    else None)))))

-- the parts with the one of the step before them
abbrev pub onto : Option ConstraintPart → List ConstraintPart → List ConstraintPart
onto None parts = parts
onto (Some first) parts = first ∷ parts

-- the text's parts are the step's, if it has one, and those of what follows it
pub record BeginsStep (text : List ℕ) (step : Step) : Type 0 where
  pub some : 0 < step.len
  pub within : step.len ≤ length text
  pub put : (parts : List ConstraintPart) → AreParts (drop step.len text) parts → AreParts text (onto step.part parts)
  pub taken : (all : List ConstraintPart) → AreParts text all → (parts : List ConstraintPart) × (all ≡ onto step.part parts) × AreParts (drop step.len text) parts

-- why a text was not cut into parts
abbrev pub PartsCause : List ℕ → TagError → Type 0
PartsCause text BadExpression = (parts : List ConstraintPart) → AreParts text parts → ⊥
PartsCause text NoMemory = Unit {0}
PartsCause text Twice = ⊥
PartsCause text PlusBuild = ⊥
