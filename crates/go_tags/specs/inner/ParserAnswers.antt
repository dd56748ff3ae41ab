-- What a function that reads parts ensures: what the reading finds, unless memory runs out.
use Rattle.std.specs.Prelude.{◌≡◌, ℕ, List, Some, None, Result, Ok, Err}
use Rattle.std.specs.declared.alloc.Global.{Global}
use denote.Ref.{MutBor}
use Rattle.go_model.specs.declared.files.build.ConstraintPart.{ConstraintPart}
use Rattle.go_model.specs.declared.files.build.Constraint.{Constraint}
use Rattle.go_tags.specs.declared.error.TagError.{TagError}
use Rattle.go_tags.specs.declared.error.TagError.TheVariants.{BadExpression, Twice, PlusBuild, NoMemory}
use Rattle.go_tags.specs.inner.RecursiveDescent.{Found, or_below}

-- the result is what is found, and these parts are left
abbrev pub Reads : {A : Type 0} → Found A → Result A TagError → List ConstraintPart → Type 0
Reads found (Ok a) rest = found ≡ Some (a, rest)
Reads found (Err BadExpression) rest = found ≡ None
Reads found (Err NoMemory) rest = Unit {0}
Reads found (Err Twice) rest = ⊥
Reads found (Err PlusBuild) rest = ⊥

-- a function value that reads expressions with parentheses less deep than the number
pub record ReadsBelow (depth : ℕ) (pre : Global → MutBor (List ConstraintPart) → ℕ → Type 0)
    (post : Global → MutBor (List ConstraintPart) → ℕ → Result Constraint TagError → MutBor (List ConstraintPart) → Type 0) : Type 0 where
  pub callable : (alloc : Global) (old : MutBor (List ConstraintPart)) → pre alloc old depth
  pub reads : (alloc : Global) (old new : MutBor (List ConstraintPart)) (r : Result Constraint TagError) → post alloc old depth r new → Reads (or_below depth old.now) r new.now
