-- The value of one more digit.
use Rattle.std.specs.Prelude.{ℕ, ◌+◌, ◌*◌, ◌==◌, if◌then◌else◌}
use Rattle.std.specs.Char.{digit_value}

-- a number with one more digit, or a `_`
abbrev pub value_more : ℕ → ℕ → ℕ → ℕ
value_more base n b = if b == 95 then n else n * base + digit_value b
