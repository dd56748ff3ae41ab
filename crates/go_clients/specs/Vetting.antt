-- What is told of a client, where a file of it remains; and that a client without files is in the profile.
-- Own.
use Rattle.std.specs.Prelude.{◌≡◌, ℕ, Option, None, Some}
use Rattle.go_client_typings.specs.Clients.{IsVetted}
use Rattle.go_client_typings.specs.declared.vetted.Vetted.{Vetted}
use Rattle.go_client_typings.specs.declared.vetted.Vetted.TheVariants as vetted
use Rattle.go_client_units.specs.declared.units.ClientUnit.{ClientUnit}
use Rattle.go_model.specs.types.Terms.{client_path}
use Rattle.go_model.specs.worlds.Worlds.{Packages}
use Rattle.go_sources.specs.UnitSources.{source_of}
use denote.Ref.{Bor}

abbrev pub client_in : Option (Bor ClientUnit) → Option ClientUnit
client_in None = None
client_in (Some c) = Some c.now

-- the client has the path of clients, as the units of trees tell
abbrev pub IsClientPath : Option ClientUnit → Type 0
IsClientPath None = Unit {0}
IsClientPath (Some c) = c.unit.path ≡ client_path

abbrev pub IsVettedAs : Packages → ℕ → Option ClientUnit → Vetted → Type 0
IsVettedAs world bits None v = v ≡ vetted.InProfile
IsVettedAs world bits (Some c) v = IsVetted world bits (source_of c.unit) c.blocks v
