-- The setting that scopes are of.
-- Own: words of the contracts.
use Rattle.go_rules.specs.Scopes.{Scopes}
use Rattle.go_typings.specs.Sources.{Setting}

-- the packages that imports are of, the bits of int, uint and uintptr, and whether in a client of the profile
abbrev pub setting_of : Scopes → Setting
setting_of c = record { world = c.world; bits = c.bits; profile = c.profile }
