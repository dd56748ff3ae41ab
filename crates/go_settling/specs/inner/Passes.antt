-- What a pass over the declarations of a package leaves.
use Rattle.std.specs.Prelude.{◌≡◌, ◌+◌, ◌<◌, ℕ, zero, suc, Bool, true, false, if◌then◌else◌, length, Option, is_some}
use Rattle.go_typings.specs.Declarations.{declarations}
use Rattle.go_typings.specs.PackageEnvironments.{Entries, Entry}
use Rattle.go_typings.specs.Sources.{PackageSource, Setting}
use Rattle.go_settling.specs.Settling.{IsStuck}

-- the package and its setting are as they were
pub record IsSamePackage (s t : Setting) (u v : PackageSource) : Type 0 where
  pub setting : t ≡ s
  pub source : v ≡ u

abbrev pub one_empty : Option Entry → ℕ
one_empty c = if is_some c then 0 else 1

-- how many of the first declarations have no entry
abbrev pub empties : ℕ → Entries → ℕ
empties zero a = 0
empties (suc n) a = one_empty (a n) + empties n a

module _ (s : Setting) (u : PackageSource) where
  -- the first declarations were tried: fewer are without an entry, or nothing has changed and all of these are stuck
  abbrev pub Passed : Entries → ℕ → Bool → Entries → Type 0
  Passed old n true new = empties (length (declarations u)) new < empties (length (declarations u)) old
  Passed old n false new = (new ≡ old) × ((m : ℕ) → m < n → IsStuck s u old m)
