-- What the functions that keep features answer.
use Rattle.std.specs.Prelude.{◌≡◌, ◌≢◌, ◌++◌, ◌∷◌, ℕ, Bool, true, List, []}
use Rattle.api_shared_features.specs.SharedPackages.{AreShared}
use Rattle.api_shared_features.specs.UnitWorlds.{sources}
use Rattle.go_base.specs.Lists.{Each, Has}
use Rattle.go_model.specs.worlds.Worlds.{Packages}
use Rattle.go_taken_units.specs.declared.taken.TakenUnits.{TakenUnits}
use Rattle.go_taken_units.specs.go_taken_packages.InOrder.{HavePathsOfTheirOwn}
use Rattle.go_taken_units.specs.go_taken_packages.TakenPaths.{AreTaken}
use Rattle.go_taken_units.specs.go_taken_packages.ToldPackages.{is_among}
use Rattle.go_typings.specs.Sources.{PackageSource}

-- a path without a comma
abbrev pub IsPlain : List ℕ → Type 0
IsPlain path = Each (λ b. b ≢ 44) path

-- what was taken so far is taken between the earlier packages and those with one more
abbrev pub GoesOn : PackageSource → TakenUnits → TakenUnits → Type 0
GoesOn u old new = (us : List PackageSource) → HavePathsOfTheirOwn (sources old.earlier.now) → AreTaken (sources old.earlier.now) us (is_among old.taken.keys) → AreTaken (sources new.earlier.now) (us ++ u ∷ []) (is_among new.taken.keys)

-- a path that was taken, and is public
abbrev pub IsTakenAndPublic : List (List ℕ) → List (List ℕ) → List ℕ → List ℕ → Type 0
IsTakenAndPublic taken public path member = (is_among taken path ≡ true) × Has public path × (path ≡ member)

-- the same of one of these
abbrev pub IsSomeTakenAndPublic : List (List ℕ) → List (List ℕ) → List (List ℕ) → List ℕ → Type 0
IsSomeTakenAndPublic taken public paths member = (path : List ℕ) × Has paths path × IsTakenAndPublic taken public path member

-- the packages with these paths are public in two worlds, which share them
pub record AreKept (paths : List (List ℕ)) (earlier world : Packages) : Type 0 where
  pub before : (path : List ℕ) → Has paths path → Has earlier.publics path
  pub now : (path : List ℕ) → Has paths path → Has world.publics path
  pub shared : List ℕ → Bool
  pub among : (path : List ℕ) → Has paths path → shared path ≡ true
  pub share : AreShared shared earlier world
