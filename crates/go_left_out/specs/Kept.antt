-- Where what is lost may be left out.
-- Own: words of the contracts.
use Rattle.std.specs.Prelude.{◌≡◌, ◌<◌, ◌⊎◌, ℕ, Bool, true, length}
use Rattle.go_exposed.specs.BeyondProfile.{IsBeyond}
use Rattle.go_exposed.specs.ExposedDeclarations.{IsExposed}
use Rattle.go_typings.specs.Declarations.{declarations}
use Rattle.go_typings.specs.Sources.{PackageSource, Setting}

-- the declaration of this number isn't seen and is beyond the profile
abbrev pub MayLeaveOut : Setting → PackageSource → ℕ → Type 0
MayLeaveOut s u n = (IsExposed u n → ⊥) × IsBeyond s u n

-- so is each that is lost
abbrev pub LeavesOnly : Setting → PackageSource → (ℕ → Bool) → Type 0
LeavesOnly s u lost = (n : ℕ) → n < length (declarations u) → lost n ≡ true → MayLeaveOut s u n
