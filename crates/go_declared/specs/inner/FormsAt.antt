-- The form of the declaration of a number.
-- Own: words of the contracts inside this crate.
use Rattle.std.specs.Prelude.{◌≡◌, ◌≤◌, ℕ, List, Option, None, Some, length, slice_get}
use Rattle.go_declarations.specs.declared.form.Form.{Form}
use Rattle.go_declarations.specs.declared.listing.Declaration.{Declaration}

abbrev pub FormAt : List Declaration → ℕ → Option Form → Type 0
FormAt ds n None = length ds ≤ n
FormAt ds n (Some f) = (d : Declaration) × (slice_get ds n ≡ Some d) × (d.form ≡ f)
