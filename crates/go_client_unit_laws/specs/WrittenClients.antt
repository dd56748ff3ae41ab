-- Clients that are written the same, with the same blocks.
-- Own: words of the laws.
use Rattle.std.specs.Prelude.{◌≡◌, Option, None, Some}
use Rattle.go_client_units.specs.declared.units.ClientUnit.{ClientUnit}
use Rattle.go_unit_laws.specs.WrittenUnits.{written}

-- both are there or neither is
abbrev pub AreWrittenAlike : Option ClientUnit → Option ClientUnit → Type 0
AreWrittenAlike None None = Unit {0}
AreWrittenAlike None (Some d) = ⊥
AreWrittenAlike (Some c) None = ⊥
AreWrittenAlike (Some c) (Some d) = (written c.unit ≡ written d.unit) × (c.blocks ≡ d.blocks)
