-- The world that a client of another world is typed over, and the table of its types.
-- Own: a client brings packages of the standard library that the other world may lack, and types of its own.
use Rattle.std.specs.Prelude.{◌≡◌, ◌≢◌, ℕ, List, Some}
use Rattle.go_model.specs.declared.types.names.TypeName.{TypeName}
use Rattle.go_model.specs.declared.types.package.Package.{Package}
use Rattle.go_model.specs.types.Tables.{Table}
use Rattle.go_model.specs.types.Terms.{client_path}
use Rattle.go_model.specs.worlds.Worlds.{IsWorld, Packages}
use Rattle.api_correspond.specs.Publics.{package_at, types_of}

pub record Serves (small large : Packages) (T : Table) : Type 0 where
  pub world : IsWorld large
  -- the world has all packages of the other one
  pub holds : (path : List ℕ) (p : Package) → package_at small path ≡ Some p → package_at large path ≡ Some p
  -- and the table all of its types; beside these stand the client's own
  pub table : (n : TypeName) → n.path ≢ client_path → T n ≡ types_of large n
