-- Packages that two worlds share, with all packages whose types their types name.
-- Own.
use Rattle.std.specs.Prelude.{◌≡◌, ◌||◌, ℕ, Bool, true, List, Some}
use Rattle.go_base.specs.Keys.{first_with}
use Rattle.go_base.specs.Lists.{Passes}
use Rattle.go_model.specs.declared.types.names.TypeName.{TypeName}
use Rattle.go_model.specs.declared.types.package.Package.{Package}
use Rattle.go_model.specs.types.Terms.{is_error}
use Rattle.go_model.specs.worlds.PackageTypes.{package_names}
use Rattle.go_model.specs.worlds.Worlds.{Packages, path_of}

-- the predeclared `error`, or a type of a package at one of these paths
abbrev pub is_of : (List ℕ → Bool) → TypeName → Bool
is_of shared n = is_error n || shared n.path

-- the same stands at each of these paths in both worlds, and its types name those of packages at these paths alone
pub record AreShared (shared : List ℕ → Bool) (w v : Packages) : Type 0 where
  pub same : (path : List ℕ) → shared path ≡ true → first_with path_of w.packages path ≡ first_with path_of v.packages path
  pub closed : (path : List ℕ) (p : Package) → shared path ≡ true → first_with path_of w.packages path ≡ Some p → Passes (is_of shared) (package_names p)
