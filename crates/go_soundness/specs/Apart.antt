-- A package that the packages of its setting know nothing of.
-- Own.
use Rattle.std.specs.Prelude.{◌≢◌, []}
use Rattle.go_base.specs.Gathered.{gather}
use Rattle.go_base.specs.Lists.{Has}
use Rattle.go_typings.specs.go_model.declared.types.names.TypeName.{TypeName}
use Rattle.go_typings.specs.go_model.worlds.PackageTypes.{package_names}
use Rattle.go_typings.specs.Sources.{PackageSource, Setting}

-- the package's path isn't that of the predeclared `error`, and no type of the package stands in types of the imports
pub record IsApart (s : Setting) (u : PackageSource) : Type 0 where
  pub pathed : u.path ≢ []
  pub unnamed : (n : TypeName) → Has (gather package_names s.world.packages) n → n.path ≢ u.path
