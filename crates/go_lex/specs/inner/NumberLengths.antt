-- How far the parts of a number literal go at the start of some bytes.
use Rattle.std.specs.Prelude.{◌≡◌, ◌<◌, ◌≤◌, ℕ, ◌+◌, nat_lt, Bool, ◌||◌, ◌&&◌, ◌==◌, if◌then◌else◌, Option, None, Some, List, [], ◌∷◌, ◌++◌, length, take, drop}
use Rattle.go_syntax.specs.lexical.Numbers.{is_e, is_p, is_sign, base_of, IsInteger, IsFloat, IsMultiple}
use Rattle.go_syntax.specs.declared.token.TokenKind.{TokenKind}
use Rattle.go_syntax.specs.declared.token.TokenKind.TheVariants.{IntLit, FloatLit, ImagLit}
use Rattle.go_lex.specs.declared.number.Number.{Number}
use Rattle.go_lex.specs.inner.DigitLengths.{more_len, digits_len}

-- the mark of an exponent in a literal of this base
abbrev pub is_mark : ℕ → ℕ → Bool
is_mark base b = if base == 16 then is_p b else is_e b

abbrev pub sign_len : List ℕ → ℕ
sign_len [] = 0
sign_len (b ∷ bs) = if is_sign b then 1 else 0

-- so many bytes in front of digits, where there are digits
abbrev pub with_digits : ℕ → ℕ → ℕ
with_digits n digits = if digits == 0 then 0 else n + digits

unfoldable pub exponent_len : ℕ → List ℕ → ℕ
exponent_len base [] = 0
exponent_len base (b ∷ bs) = if is_mark base b then with_digits (1 + sign_len bs) (digits_len 10 (drop (sign_len bs) bs)) else 0

unfoldable pub fraction_len : ℕ → List ℕ → ℕ
fraction_len base [] = 0
fraction_len base (b ∷ bs) = if b == 46 then 1 + digits_len base bs else 0

-- fraction and exponent behind so many bytes of digits: a hexadecimal literal has none without an
-- exponent, and has digits somewhere before it; binary and octal ones have none
abbrev pub joined_len : ℕ → ℕ → ℕ → ℕ → ℕ
joined_len base whole fraction exponent =
    if base == 10 then fraction + exponent
    else (if base == 16 && (nat_lt 0 exponent && (nat_lt 0 whole || nat_lt 1 fraction)) then fraction + exponent else 0)

unfoldable pub tail_len : ℕ → ℕ → List ℕ → ℕ
tail_len base whole bytes = joined_len base whole (fraction_len base bytes) (exponent_len base (drop (fraction_len base bytes) bytes))

-- the `i` of an imaginary literal
unfoldable pub imaginary_len : List ℕ → ℕ
imaginary_len [] = 0
imaginary_len (b ∷ bs) = if b == 105 then 1 else 0

-- the kind of a literal by the lengths of its last parts
abbrev pub number_kind : ℕ → ℕ → TokenKind
number_kind tail imaginary = if nat_lt 0 imaginary then ImagLit else (if nat_lt 0 tail then FloatLit else IntLit)

-- a text is a number literal of this kind
pub data IsNumber : TokenKind → List ℕ → Type 0 where
  int_number : {text : List ℕ} → IsInteger text → IsNumber IntLit text
  float_number : {text : List ℕ} → IsFloat text → IsNumber FloatLit text
  imaginary_number : {text : List ℕ} → IsMultiple text → IsNumber ImagLit (text ++ (105 ∷ []))

-- the longest number literal at the start of the bytes, and its kind
pub record IsLongestNumber (bytes : List ℕ) (kind : TokenKind) (len : ℕ) : Type 0 where
  pub some : 0 < len
  pub within : len ≤ length bytes
  pub stands : IsNumber kind (take len bytes)
  pub longest : (k : TokenKind) (text more : List ℕ) → IsNumber k text → bytes ≡ text ++ more → length text ≤ len
  pub one_kind : (k : TokenKind) (text more : List ℕ) → IsNumber k text → bytes ≡ text ++ more → length text ≡ len → k ≡ kind

-- the base that the second byte says, behind a zero
abbrev pub second_base : List ℕ → Option ℕ
second_base [] = None
second_base (b ∷ bs) = base_of b

abbrev pub prefix_of : List ℕ → Option ℕ
prefix_of [] = None
prefix_of (b ∷ bs) = if b == 48 then second_base bs else None

-- how many bytes an integer literal without a letter takes
abbrev pub integer_len : List ℕ → ℕ
integer_len [] = 0
integer_len (b ∷ bs) = if b == 48 then digits_len 8 (b ∷ bs) else digits_len 10 (b ∷ bs)

-- a literal of these lengths: digits, fraction and exponent, and `i`
abbrev pub number_of : ℕ → ℕ → ℕ → ℕ → Number
number_of int whole tail imaginary = record {
  kind = number_kind tail imaginary;
  len = if nat_lt 0 (tail + imaginary) then whole + tail + imaginary else int;
}

unfoldable pub decimal_number : List ℕ → Number
decimal_number bytes =
    number_of (integer_len bytes) (digits_len 10 bytes) (tail_len 10 (digits_len 10 bytes) (drop (digits_len 10 bytes) bytes))
    (imaginary_len (drop (digits_len 10 bytes + tail_len 10 (digits_len 10 bytes) (drop (digits_len 10 bytes) bytes)) bytes))

-- a literal of these lengths, where it has digits
abbrev pub if_digits : ℕ → ℕ → ℕ → Option Number
if_digits whole tail imaginary = if nat_lt 0 (whole + tail) then Some (number_of whole whole tail imaginary) else None

-- a literal behind its prefix, and its length there
unfoldable pub prefixed_number : ℕ → List ℕ → Option Number
prefixed_number base bytes =
    if_digits (more_len base bytes) (tail_len base (more_len base bytes) (drop (more_len base bytes) bytes))
    (imaginary_len (drop (more_len base bytes + tail_len base (more_len base bytes) (drop (more_len base bytes) bytes)) bytes))

-- the literal behind the prefix of this base
abbrev pub behind_of : Option ℕ → List ℕ → Option Number
behind_of None bytes = None
behind_of (Some base) bytes = prefixed_number base bytes

-- a literal behind a prefix of two bytes, or else one without a prefix
abbrev pub or_plain : Option Number → Number → Number
or_plain None plain = plain
or_plain (Some behind) plain = record { kind = behind.kind; len = 2 + behind.len }

-- the longest number literal at the start of bytes that begin one
unfoldable pub number_at : List ℕ → Number
number_at bytes = or_plain (behind_of (prefix_of bytes) (drop 2 bytes)) (decimal_number bytes)
