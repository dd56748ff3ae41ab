-- Number literals.
-- Public source: Go specification, "Integer literals", "Floating-point literals" and "Imaginary literals".
use Rattle.std.specs.Prelude.{◌≡◌, ◌⊎◌, ℕ, ◌+◌, ◌*◌, nat_lt, nat_le, Bool, true, ◌||◌, ◌&&◌, ◌==◌, if◌then◌else◌, Option, Some, None, List, [], ◌∷◌, ◌++◌}
use Rattle.std.specs.Char.{digit_value}

-- a digit of the base: a letter counts from 10 on, in either case
abbrev pub is_digit_of : ℕ → ℕ → Bool
is_digit_of base b = nat_lt (digit_value b) base

-- a digit from 1 to 9
abbrev pub is_first_digit : ℕ → Bool
is_first_digit b = nat_le 49 b && nat_le b 57

-- digits, and at most one `_` between two
pub data AreDigits (base : ℕ) : List ℕ → Type 0 where
  one_digit : {d : ℕ} → is_digit_of base d ≡ true → AreDigits base (d ∷ [])
  digit_more : {d : ℕ} {ds : List ℕ} → is_digit_of base d ≡ true → AreDigits base ds → AreDigits base (d ∷ ds)
  digit_apart : {d : ℕ} {ds : List ℕ} → is_digit_of base d ≡ true → AreDigits base ds → AreDigits base (d ∷ (95 ∷ ds))

-- digits behind a prefix, which a `_` may set apart
pub data AreBehind (base : ℕ) : List ℕ → Type 0 where
  directly : {ds : List ℕ} → AreDigits base ds → AreBehind base ds
  apart : {ds : List ℕ} → AreDigits base ds → AreBehind base (95 ∷ ds)

-- `x` or `X`
abbrev pub is_x : ℕ → Bool
is_x b = b == 120 || b == 88

-- the base that a letter behind `0` says
abbrev pub base_of : ℕ → Option ℕ
base_of b = if is_x b then Some 16 else (if b == 111 || b == 79 then Some 8 else (if b == 98 || b == 66 then Some 2 else None))

-- an integer literal; the octal ones without a letter have `0` among them
pub data IsInteger : List ℕ → Type 0 where
  decimal_integer : {d : ℕ} {ds : List ℕ} → is_first_digit d ≡ true → AreDigits 10 (d ∷ ds) → IsInteger (d ∷ ds)
  octal_integer : {ds : List ℕ} → AreDigits 8 (48 ∷ ds) → IsInteger (48 ∷ ds)
  prefixed_integer : {b base : ℕ} {ds : List ℕ} → base_of b ≡ Some base → AreBehind base ds → IsInteger (48 ∷ (b ∷ ds))

-- nothing, or a text of this kind
abbrev pub Optional : (List ℕ → Type 0) → List ℕ → Type 0
Optional P text = (text ≡ []) ⊎ P text

-- `e` or `E`, the mark of a decimal exponent
abbrev pub is_e : ℕ → Bool
is_e b = b == 101 || b == 69

-- `p` or `P`, the mark of a hexadecimal literal's exponent
abbrev pub is_p : ℕ → Bool
is_p b = b == 112 || b == 80

abbrev pub is_sign : ℕ → Bool
is_sign b = b == 43 || b == 45

-- an exponent
pub data IsExponent (mark : ℕ → Bool) : List ℕ → Type 0 where
  plain_exponent : {m : ℕ} {ds : List ℕ} → mark m ≡ true → AreDigits 10 ds → IsExponent mark (m ∷ ds)
  signed_exponent : {m s : ℕ} {ds : List ℕ} → mark m ≡ true → is_sign s ≡ true → AreDigits 10 ds → IsExponent mark (m ∷ (s ∷ ds))

-- what a hexadecimal floating-point literal has between its prefix and its exponent
pub data IsMantissa : List ℕ → Type 0 where
  whole_mantissa : {ds : List ℕ} → AreBehind 16 ds → IsMantissa ds
  pointed_mantissa : {ds fs : List ℕ} → AreBehind 16 ds → Optional (AreDigits 16) fs → IsMantissa (ds ++ (46 ∷ fs))
  point_first_mantissa : {fs : List ℕ} → AreDigits 16 fs → IsMantissa (46 ∷ fs)

-- a floating-point literal
pub data IsFloat : List ℕ → Type 0 where
  pointed : {ds fs es : List ℕ} → AreDigits 10 ds → Optional (AreDigits 10) fs → Optional (IsExponent is_e) es → IsFloat (ds ++ (46 ∷ (fs ++ es)))
  pointless : {ds es : List ℕ} → AreDigits 10 ds → IsExponent is_e es → IsFloat (ds ++ es)
  point_first : {fs es : List ℕ} → AreDigits 10 fs → Optional (IsExponent is_e) es → IsFloat (46 ∷ (fs ++ es))
  hexadecimal : {x : ℕ} {ms es : List ℕ} → is_x x ≡ true → IsMantissa ms → IsExponent is_p es → IsFloat (48 ∷ (x ∷ (ms ++ es)))

-- what an imaginary literal has before its `i`
pub data IsMultiple : List ℕ → Type 0 where
  digits_multiple : {text : List ℕ} → AreDigits 10 text → IsMultiple text
  integer_multiple : {text : List ℕ} → IsInteger text → IsMultiple text
  float_multiple : {text : List ℕ} → IsFloat text → IsMultiple text

-- the number whose digits are those of `n` and then these
abbrev pub value_from : ℕ → ℕ → List ℕ → ℕ
value_from base n [] = n
value_from base n (d ∷ ds) = if d == 95 then value_from base n ds else value_from base (n * base + digit_value d) ds

-- the number that the digits behind a prefix write, whose letter may say a base
abbrev pub prefixed_value : Option ℕ → ℕ → List ℕ → ℕ
prefixed_value None b bs = value_from 8 0 (b ∷ bs)
prefixed_value (Some base) b bs = value_from base 0 bs

-- the number that the rest of a literal behind `0` writes
abbrev pub value_behind_zero : List ℕ → ℕ
value_behind_zero [] = 0
value_behind_zero (b ∷ bs) = prefixed_value (base_of b) b bs

-- the number that an integer literal writes
abbrev pub integer_value : List ℕ → ℕ
integer_value [] = 0
integer_value (b ∷ bs) = if b == 48 then value_behind_zero bs else value_from 10 0 (b ∷ bs)
