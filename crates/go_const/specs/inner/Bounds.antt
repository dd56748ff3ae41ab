-- Whole numbers of 128 bits.
use Rattle.std.specs.Prelude.{if◌then◌else◌, ℤ, Option, None, Some}
use Rattle.go_model.specs.constants.Constants.{fits_128_bits}

-- the number, where it fits into 128 bits, with sign
abbrev pub bounded : Option ℤ → Option ℤ
bounded None = None
bounded (Some x) = if fits_128_bits x then Some x else None
