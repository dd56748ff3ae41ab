-- Parts of declarations in whose references none stands in the length of an array.
-- Own: words of the contracts inside this crate.
use Rattle.std.specs.Prelude.{◌≡◌, Bool, false, []}
use Rattle.go_references.specs.References.{References, in_lengths}
use Rattle.go_references.specs.declared.references.Position.{Position}

abbrev pub outside : Bool → Position
outside by_value = record { in_length = false; by_value = by_value }

-- outside of lengths it gives no reference that stands in one
abbrev pub NoLength : References → Type 0
NoLength refs = (by_value : Bool) → in_lengths (refs (outside by_value)) ≡ []
