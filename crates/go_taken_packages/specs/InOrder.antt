-- Packages in a list that have paths of their own and come after those that they import, and what becomes of them.
-- Public source: Go specification, "Import declarations". That no path is empty is own.
use Rattle.std.specs.Prelude.{◌≢◌, ℕ, List, [], map, Option, None, Some}
use Rattle.go_base.specs.Lists.{Has, Once}
use Rattle.go_exposed.specs.OfferedWorlds.{Become}
use Rattle.go_model.specs.declared.types.package.Package.{Package}
use Rattle.go_model.specs.worlds.Worlds.{Packages}
use Rattle.go_typings.specs.PackageWorlds.{ComeAfterImports, Outcome, typed, refused, blocked, no_packages}
use Rattle.go_typings.specs.Sources.{PackageSource}

abbrev pub source_path : PackageSource → List ℕ
source_path u = u.path

-- no path stands twice, and none is empty
pub record HavePathsOfTheirOwn (us : List PackageSource) : Type 0 where
  pub once : Once (map source_path us)
  pub named : (u : PackageSource) → Has us u → u.path ≢ []

-- the listed packages, each of which comes after those that it imports, become these in turn, and the last packages are all that are typed
pub record BecomeInOrder (bits : ℕ) (us : List PackageSource) (xs : List Outcome) (w : Packages) : Type 0 where
  pub after : ComeAfterImports [] us
  pub become : Become bits no_packages us xs w

-- the package as which one is typed of which this becomes
abbrev pub typed_package : Outcome → Option Package
typed_package (typed p) = Some p
typed_package (refused r) = None
typed_package blocked = None
