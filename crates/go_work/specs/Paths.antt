-- Units whose paths can be those of packages in a world.
-- Public source: Go specification, "Import declarations". Own: which paths are kept for others.
use Rattle.std.specs.Prelude.{◌≢◌, ℕ, List, []}
use Rattle.go_base.specs.Lists.{Has}
use Rattle.go_model.specs.types.Terms.{client_path}
use Rattle.go_units.specs.declared.unit.«Unit».{«Unit» as PackageUnit}

-- the path isn't the empty one, as that of the predeclared `error`, and not a client's
pub record IsOfPackage (path : List ℕ) : Type 0 where
  pub pathed : path ≢ []
  pub foreign : path ≢ client_path

abbrev pub AreOfPackages : List PackageUnit → Type 0
AreOfPackages units = (u : PackageUnit) → Has units u → IsOfPackage u.path
