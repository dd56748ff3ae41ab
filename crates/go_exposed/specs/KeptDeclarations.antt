-- Which declarations of a package are kept: all but those that are unsound, that nobody sees and that are beyond the profile.
-- Own.
use Rattle.std.specs.Prelude.{◌≡◌, ◌<◌, ℕ, Bool, false, not, ◌&&◌, if◌then◌else◌, None, length}
use Rattle.go_typings.specs.Assignments.{all_of}
use Rattle.go_typings.specs.Declarations.{declarations}
use Rattle.go_typings.specs.PackageEnvironments.{Entries}
use Rattle.go_typings.specs.Sources.{PackageSource, Setting}
use Rattle.go_typings.specs.Typings.{IsClosed, IsSound, Typing}
use Rattle.go_exposed.specs.BeyondProfile.{IsBeyond}
use Rattle.go_exposed.specs.ExposedDeclarations.{IsExposed}

-- a declaration that has no typing, that other modules don't see and that is beyond the profile
pub record IsLeftOut (s : Setting) (u : PackageSource) (n : ℕ) : Type 0 where
  pub unsound : IsSound s u n → ⊥
  pub unseen : IsExposed u n → ⊥
  pub beyond : IsBeyond s u n

-- these declarations are kept, with these entries, and each other one is left out
pub record LeavesOut (s : Setting) (u : PackageSource) (within : ℕ → Bool) (a : Entries) : Type 0 where
  pub typing : Typing s u within a
  pub closed : IsClosed s u within
  pub rest : (n : ℕ) → n < length (declarations u) → within n ≡ false → IsLeftOut s u n

-- ---- what a sieve lets through

-- the declarations that aren't lost
abbrev pub not_lost : PackageSource → (ℕ → Bool) → ℕ → Bool
not_lost u lost n = all_of (declarations u) n && not (lost n)

-- the entries of these declarations alone
abbrev pub entries_of : (ℕ → Bool) → Entries → Entries
entries_of within a n = if within n then a n else None
