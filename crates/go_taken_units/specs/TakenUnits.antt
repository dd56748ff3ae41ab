-- A package that is taken over from those that were typed before: it stands among them as it is written here, and all that it imports was taken over too.
-- Own.
use Rattle.std.specs.Prelude.{◌≡◌, ℕ, List, Some, slice_get}
use Rattle.std.specs.BTreeSet.{insert_key}
use Rattle.std.specs.Cmp.Lexicographic.{slice_cmp}
use Rattle.std.specs.Ordering.{nat_cmp}
use Rattle.go_sources.specs.UnitSources.{source_of}
use Rattle.go_taken_packages.specs.TakenPaths.{ImportsAreOf}
use Rattle.go_taken_packages.specs.ToldPackages.{is_among}
use Rattle.go_units.specs.declared.unit.«Unit».{«Unit» as PackageUnit}

-- the paths with one more
abbrev pub with_path : List (List ℕ) → List ℕ → List (List ℕ)
with_path paths path = insert_key (slice_cmp nat_cmp) paths path

-- where these paths were taken over, the package is, from the earlier one of this number
pub record TakesOver (earlier : List PackageUnit) (paths : List (List ℕ)) (u : PackageUnit) (m : ℕ) : Type 0 where
  pub other : PackageUnit
  pub stands : slice_get earlier m ≡ Some other
  pub same : source_of other ≡ source_of u
  pub imports : ImportsAreOf (is_among paths) (source_of u)
