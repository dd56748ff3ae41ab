-- The packages that a package reaches: through its imports that are found, and through the types of packages that it reaches.
-- Own: that a typing depends on these alone.
use Rattle.std.specs.Prelude.{◌≡◌, ℕ, Bool, true, ◌||◌, List, Some}
use Rattle.go_references.specs.go_base.Keys.{first_with}
use Rattle.go_references.specs.go_base.Lists.{Has, Passes}
use Rattle.go_rules.specs.go_model.declared.types.names.TypeName.{TypeName}
use Rattle.go_rules.specs.go_model.declared.types.package.Package.{Package}
use Rattle.go_rules.specs.go_model.types.Terms.{is_error}
use Rattle.go_rules.specs.go_model.worlds.PackageTypes.{package_names}
use Rattle.go_rules.specs.go_model.worlds.Worlds.{Packages, path_of}
use Rattle.go_typings.specs.PackageEnvironments.{had_path}
use Rattle.go_typings.specs.Sources.{Import, PackageSource, Setting, imports_of}

-- a name of a type of one of the packages with these paths, or of the predeclared `error`
abbrev pub is_reached : (List ℕ → Bool) → TypeName → Bool
is_reached reached n = is_error n || reached n.path

-- among these paths are those of the package's imports that are found, and of all packages whose types stand in types of packages among them
pub record AreReached (w : Packages) (u : PackageSource) (reached : List ℕ → Bool) : Type 0 where
  pub imports : (file : ℕ) (i : Import) → Has (imports_of u file) i → i.is_found ≡ true → reached i.path ≡ true
  pub closed : (path : List ℕ) (p : Package) → reached path ≡ true → first_with path_of w.packages path ≡ Some p → Passes (is_reached reached) (package_names p)

-- among these paths is that under which each import of the package is had
abbrev pub HoldImports : PackageSource → (List ℕ → Bool) → Type 0
HoldImports u reached = (file : ℕ) (i : Import) → Has (imports_of u file) i → reached (had_path i) ≡ true

-- two settings are the same in all that the package reaches
pub record ReachesSame (u : PackageSource) (s t : Setting) : Type 0 where
  pub reached : List ℕ → Bool
  pub are : AreReached s.world u reached
  pub same : (path : List ℕ) → reached path ≡ true → first_with path_of s.world.packages path ≡ first_with path_of t.world.packages path
  pub bits : s.bits ≡ t.bits
  pub profile : s.profile ≡ t.profile
