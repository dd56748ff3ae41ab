-- What was told of a rule.
-- Own: words of the contracts inside these crates.
use Rattle.std.specs.Prelude.{◌⊎◌, List}
use Rattle.go_base.specs.Lists.{Has}
use Rattle.go_base.specs.Growing.{Grows}

-- the losses with the property were added to a list, and where there is none, the rule is kept
pub record Tells {A : Type 0} (K : Type 0) (P : A → Type 0) (old new : List A) : Type 0 where
  pub grows : Grows P old new
  pub decided : K ⊎ ((x : A) × P x)

-- the rule is kept of each item
abbrev pub KeptBy : {B : Type 0} → (B → Type 0) → List B → Type 0
KeptBy {B} K fs = (f : B) → Has fs f → K f
