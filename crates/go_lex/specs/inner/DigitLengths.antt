-- How far digits go at the start of some bytes.
use Rattle.std.specs.Prelude.{ℕ, suc, Bool, false, ◌||◌, ◌&&◌, ◌==◌, if◌then◌else◌, List, [], ◌∷◌}
use Rattle.go_syntax.specs.lexical.Numbers.{is_digit_of}

-- the bytes begin with a digit
abbrev pub begins_digit : ℕ → List ℕ → Bool
begins_digit base [] = false
begins_digit base (b ∷ bs) = is_digit_of base b

-- behind a digit, the first byte goes on: it is a digit, or a `_` before one
abbrev pub goes_on : ℕ → List ℕ → Bool
goes_on base [] = false
goes_on base (b ∷ bs) = is_digit_of base b || (b == 95 && begins_digit base bs)

-- how many bytes go on behind a digit
unfoldable pub more_len : ℕ → List ℕ → ℕ
more_len base [] = 0
more_len base (b ∷ bs) = if goes_on base (b ∷ bs) then suc (more_len base bs) else 0

-- how many bytes digits take at the start
abbrev pub digits_len : ℕ → List ℕ → ℕ
digits_len base bytes = if begins_digit base bytes then more_len base bytes else 0
