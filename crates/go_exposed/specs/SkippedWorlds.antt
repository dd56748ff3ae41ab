-- What is left out of packages in a list, each typed over those before it.
-- Own.
use Rattle.std.specs.Prelude.{◌≡◌, ℕ, Bool, List, [], ◌∷◌}
use Rattle.go_model.specs.worlds.Worlds.{Packages}
use Rattle.go_typings.specs.PackageEnvironments.{Entries}
use Rattle.go_typings.specs.PackageWorlds.{Outcome, typed, refused, blocked, no_packages, over, with_outcome}
use Rattle.go_typings.specs.Sources.{PackageSource, Setting}
use Rattle.go_exposed.specs.KeptDeclarations.{LeavesOut}
use Rattle.go_exposed.specs.OfferedWorlds.{Becomes}
use Rattle.go_exposed.specs.SkippedDeclarations.{IsSkippedOf, Skipped}

-- what is left out of a package that is offered
pub record IsSkipped (s : Setting) (u : PackageSource) (xs : List Skipped) : Type 0 where
  pub within : ℕ → Bool
  pub entries : Entries
  pub kept : LeavesOut s u within entries
  pub skipped : IsSkippedOf s u within xs

-- what is left out of a package of which this becomes: of one that isn't offered nothing
abbrev pub IsSkippedAs : Setting → PackageSource → Outcome → List Skipped → Type 0
IsSkippedAs s u (typed p) xs = IsSkipped s u xs
IsSkippedAs s u x xs = xs ≡ []

-- this is left out of the listed packages in turn, each over the first packages and those that are typed before it
pub data Skip (bits : ℕ) : Packages → List PackageSource → List (List Skipped) → Type 0 where
  skip_none : {w : Packages} → Skip bits w [] []
  skip_more : {w : Packages} {u : PackageSource} {us : List PackageSource} {xs : List Skipped} {xss : List (List Skipped)} (x : Outcome) → Becomes (over bits w) u x → IsSkippedAs (over bits w) u x xs → Skip bits (with_outcome w u x) us xss → Skip bits w (u ∷ us) (xs ∷ xss)

-- this is left out of each of the listed packages
abbrev pub AreSkipped : ℕ → List PackageSource → List (List Skipped) → Type 0
AreSkipped bits us xss = Skip bits no_packages us xss
