-- A client of a module that is typed in the profile, over the packages of the module's tree and the standard library's on a platform.
-- Public source: Go specification, "Packages". Own: the profile.
use Rattle.std.specs.Prelude.{ℕ, List, map, Option, None, Some, Ok}
use Rattle.go_client_typings.specs.Clients.{IsProfileClient}
use Rattle.go_client_units.specs.ClientUnits.{AreClientUnits}
use Rattle.go_client_units.specs.declared.units.ClientUnit.{ClientUnit}
use Rattle.go_client_units.specs.declared.units.ClientUnits.{ClientUnits}
use Rattle.go_exposed.specs.OfferedWorlds.{IsWorldOf}
use Rattle.go_model.specs.declared.files.platform.Platform.{Platform}
use Rattle.go_model.specs.declared.files.tree.Tree.{Tree}
use Rattle.go_model.specs.worlds.Worlds.{Packages}
use Rattle.go_sources.specs.UnitSources.{source_of}

-- the client is in the profile over these packages; one of which no file remains is
abbrev pub IsInProfile : Packages → ℕ → Option ClientUnit → Type 0
IsInProfile world bits None = Unit {0}
IsInProfile world bits (Some c) = IsProfileClient world bits (source_of c.unit) c.blocks

-- the trees have units with the client, these have a world, where `int` has so many bits, and over that the client is in the profile
pub record IsProfileTyped (p : Platform) (bits : ℕ) (barred : List (List ℕ)) (tree std_tree client : Tree) : Type 0 where
  pub units : ClientUnits
  pub are : AreClientUnits p barred tree std_tree client (Ok units)
  pub world : Packages
  pub is : IsWorldOf bits (map source_of units.packages.packages) world
  pub typed : IsInProfile world bits units.client
