-- What becomes of packages that are typed level by level: each over those of lower levels alone. Some may not be looked at.
-- Own.
use Rattle.std.specs.Prelude.{◌≡◌, ℕ, suc, List, [], ◌∷◌, Option, None, Some, if◌then◌else◌, nat_eq, slice_get}
use Rattle.go_model.specs.worlds.Worlds.{Packages}
use Rattle.go_typings.specs.Assignments.{Assignment, At, before}
use Rattle.go_typings.specs.PackageWorlds.{Outcome, no_packages, over, with_outcome}
use Rattle.go_typings.specs.Sources.{PackageSource}
use Rattle.go_exposed.specs.OfferedWorlds.{Becomes}
use Rattle.go_exposed.specs.SkippedDeclarations.{Skipped}
use Rattle.go_exposed.specs.SkippedWorlds.{IsSkippedAs}
use Rattle.go_level_laws.specs.Levels.{NeedsOther}

-- what became of packages so far, by their numbers
abbrev pub Outcomes : Type 0
Outcomes = Assignment Outcome

-- with what became of one more
abbrev pub with_one : ℕ → Outcome → Outcomes → Outcomes
with_one n x a m = if nat_eq m n then Some x else a m

-- ---- their world

-- the packages, with one more where it is typed so far
abbrev pub with_known : Packages → PackageSource → Option Outcome → Packages
with_known w u None = w
with_known w u (Some x) = with_outcome w u x

-- the packages, with those of the list that are typed so far
abbrev pub world_from : Packages → List PackageSource → Outcomes → Packages
world_from w [] a = w
world_from w (u ∷ us) a = world_from (with_known w u (a 0)) us (λ n. a (suc n))

-- the world of those that are typed so far
abbrev pub world_of : List PackageSource → Outcomes → Packages
world_of us a = world_from no_packages us a

-- the world of those of them that are below a level
abbrev pub world_below : List PackageSource → (ℕ → ℕ) → ℕ → Outcomes → Packages
world_below us level k a = world_of us (before level k a)

-- the packages, with one more where it is there and is typed so far
abbrev pub with_source : Packages → Option PackageSource → Option Outcome → Packages
with_source w None c = w
with_source w (Some u) c = with_known w u c

-- with the package of a number
abbrev pub with_number : List PackageSource → Outcomes → Packages → ℕ → Packages
with_number us a w n = with_source w (slice_get us n) (a n)

-- with the packages of these numbers, which are added in this order
abbrev pub added_in : List PackageSource → Outcomes → Packages → List ℕ → Packages
added_in us a w [] = w
added_in us a w (n ∷ ns) = added_in us a (with_number us a w n) ns

-- ---- what becomes of them

-- this became of each package over the typed packages of lower levels alone, and of all that it needs something became before
pub record BecomeByLevels (bits : ℕ) (us : List PackageSource) (level : ℕ → ℕ) (a : Outcomes) : Type 0 where
  pub become : (n : ℕ) (x : Outcome) → a n ≡ Some x → At us n (λ u. Becomes (over bits (world_below us level (level n) a)) u x)
  pub needs : (n m : ℕ) (x : Outcome) → a n ≡ Some x → NeedsOther us n m → (y : Outcome) × (a m ≡ Some y)

-- this is left out of each, over the same
abbrev pub AreSkippedByLevels : ℕ → List PackageSource → (ℕ → ℕ) → Outcomes → List (List Skipped) → Type 0
AreSkippedByLevels bits us level a xss = (n : ℕ) (x : Outcome) (xs : List Skipped) → a n ≡ Some x → slice_get xss n ≡ Some xs
    → At us n (λ u. IsSkippedAs (over bits (world_below us level (level n) a)) u x xs)
