-- What is kept of packages while they are checked level by level.
use Rattle.std.specs.Prelude.{ℕ, zero, suc, Bool, false, not, ◌&&◌, ◌||◌, nat_eq, List, [], ◌∷◌, ◌++◌, map, Option, None, Some, is_none}
use Rattle.std.specs.Str.{bytes_eq}
use Rattle.go_base.specs.Keys.{first_with}
use Rattle.go_exposed.specs.SkippedValues.{all_skipped}
use Rattle.go_exposed.specs.SkippedDeclarations as spec
use Rattle.go_exposed.specs.declared.skipped.Skipped.{Skipped}
use Rattle.go_model.specs.declared.types.package.Package.{Package}
use Rattle.go_model.specs.worlds.Worlds.{path_of}
use Rattle.go_units.specs.declared.unit.«Unit».{«Unit» as PackageUnit}
use Rattle.go_work.specs.KeptUnits.{kept_unit}
use Rattle.go_work.specs.declared.checked.SkippedUnit.{SkippedUnit}
use Rattle.go_work.specs.declared.rows.Row.{Row}

-- of a package that waits for its check
abbrev pub waiting_row : PackageUnit → Row
waiting_row u = record { held = Some u; left_out = [] }

-- of one that was taken out
abbrev pub no_row : Row
no_row = record { held = None; left_out = [] }

-- of one that is offered
abbrev pub offered_row : PackageUnit → List Skipped → Row
offered_row u [] = no_row
offered_row u (x ∷ xs) = record { held = Some u; left_out = x ∷ xs }

-- the package that a row has
abbrev pub row_unit : List Row → ℕ → Option PackageUnit
row_unit [] n = None
row_unit (r ∷ rs) zero = r.held
row_unit (r ∷ rs) (suc n) = row_unit rs n

-- what is left out of it
abbrev pub row_skipped : List Row → ℕ → List Skipped
row_skipped [] n = []
row_skipped (r ∷ rs) zero = r.left_out
row_skipped (r ∷ rs) (suc n) = row_skipped rs n

-- what is left out of each
abbrev pub skipped_in : List Row → List (List Skipped)
skipped_in [] = []
skipped_in (r ∷ rs) = r.left_out ∷ skipped_in rs

abbrev pub all_skipped_in : List Row → List (List spec.Skipped)
all_skipped_in rows = map all_skipped (skipped_in rows)

-- the package has a path, under which none of the others stands
abbrev pub is_new : List Package → Option PackageUnit → Bool
is_new ps None = false
is_new ps (Some u) = not (bytes_eq u.path []) && is_none (first_with path_of ps u.path)

-- whether the package of a row may be checked over others
abbrev pub is_ready : List Package → List Row → ℕ → Bool
is_ready ps rows n = is_new ps (row_unit rows n)

abbrev pub is_width : ℕ → Bool
is_width bits = nat_eq bits 32 || nat_eq bits 64

-- ---- what is left in the end

abbrev pub kept_of : Option PackageUnit → List Skipped → List SkippedUnit
kept_of None xs = []
kept_of (Some u) xs = kept_unit u xs

-- of these rows, the packages of which something is left out
abbrev pub kept_in : List Row → List SkippedUnit
kept_in [] = []
kept_in (r ∷ rs) = kept_of r.held r.left_out ++ kept_in rs
