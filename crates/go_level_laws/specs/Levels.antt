-- The levels of packages: first those that need none of the others, then those that need these alone, and so on.
-- Public source: Go specification, "Import declarations" and "Package initialization" (a package comes after those that it imports). Levels
-- are own.
use Rattle.std.specs.Prelude.{◌≡◌, ◌<◌, ◌⊎◌, ℕ, suc, true, List, length}
use Rattle.go_base.specs.Lists.{Has}
use Rattle.go_unit_worlds.specs.go_std_worlds.StdSources.{HaveOwnPaths, HavePaths}
use Rattle.go_typings.specs.Assignments.{At}
use Rattle.go_typings.specs.Sources.{Import, PackageSource, imports_of}

-- a file of the package imports this path, and a package is found there
abbrev pub Needs : PackageSource → List ℕ → Type 0
Needs u path = (file : ℕ) × (i : Import) × Has (imports_of u file) i × (i.is_found ≡ true) × (i.path ≡ path)

-- of the listed packages the one of the first number needs that of the second
abbrev pub NeedsOther : List PackageSource → ℕ → ℕ → Type 0
NeedsOther us n m = At us n (λ u. At us m (λ v. Needs u v.path))

-- each package stands above those that it needs
abbrev pub Rises : List PackageSource → (ℕ → ℕ) → Type 0
Rises us level = (n m : ℕ) → NeedsOther us n m → level m < level n

-- packages with paths of their own, each of which comes after those that it needs; so their numbers are levels too
pub record ComeInOrder (us : List PackageSource) : Type 0 where
  pub own_paths : HaveOwnPaths us
  pub paths : HavePaths us
  pub rises : Rises us (λ n. n)

-- a package is on level 0 where it needs none, and else on the one after the greatest of those that it needs
pub record AreLevels (us : List PackageSource) (level : ℕ → ℕ) : Type 0 where
  pub above : Rises us level
  pub least : (n : ℕ) → n < length us → (level n ≡ 0) ⊎ ((m : ℕ) × NeedsOther us n m × (level n ≡ suc (level m)))
