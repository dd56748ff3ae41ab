-- Values of constants as text: numbers in decimal, strings quoted in ASCII.
-- Public source: Go's cmd/api and its package strconv, whose QuoteToASCII quotes so; that strings are written whole is own.
use Rattle.std.specs.Prelude.{◌≡◌, ℕ, ◌/◌, ◌%◌, ◌+◌, Bool, true, false, ◌||◌, ◌==◌, nat_lt, if◌then◌else◌, List, [], ◌∷◌, ◌++◌, codes}
use Rattle.std.specs.Char.{IsScalar, encode_utf8}
use Rattle.std.specs.Fmt.{signed_decimal}
use Rattle.std.specs.Str.{StartsWithNoChar}
use Rattle.go_model.specs.declared.constants.value.Value.{Value}
use Rattle.go_model.specs.declared.constants.value.Value.TheVariants as value

-- a digit of base 16, in lower case
abbrev pub hex_digit : ℕ → ℕ
hex_digit n = if nat_lt n 10 then 48 + n else 87 + n

-- a number of base 16 in two, four or eight digits
unfoldable pub hex_2 : ℕ → List ℕ
hex_2 n = hex_digit (n / 16) ∷ hex_digit (n % 16) ∷ []

unfoldable pub hex_4 : ℕ → List ℕ
hex_4 n = hex_2 (n / 256) ++ hex_2 (n % 256)

unfoldable pub hex_8 : ℕ → List ℕ
hex_8 n = hex_4 (n / 65536) ++ hex_4 (n % 65536)

-- a character as an escape with hexadecimal digits, or as it stands in ASCII
unfoldable pub plain_text : ℕ → List ℕ
plain_text c =
    if nat_lt c 32 || c == 127 then codes "\\x" ++ hex_2 c
    else (if nat_lt c 128 then c ∷ []
    else (if nat_lt c 65536 then codes "\\u" ++ hex_4 c else codes "\\U" ++ hex_8 c))

-- the letter of an escape, or 0 where the character has none
unfoldable pub escape_letter : ℕ → ℕ
escape_letter c =
    if c == 34 || c == 92 then c
    else (if c == 7 then 97
    else (if c == 8 then 98
    else (if c == 12 then 102
    else (if c == 10 then 110
    else (if c == 13 then 114
    else (if c == 9 then 116
    else (if c == 11 then 118 else 0)))))))

-- a character between quotes
unfoldable pub char_text : ℕ → List ℕ
char_text c = if escape_letter c == 0 then plain_text c else 92 ∷ escape_letter c ∷ []

-- bytes as they stand between quotes: characters, and bytes that belong to none
pub data IsQuoted : List ℕ → List ℕ → Type 0 where
  quoted_none : IsQuoted [] []
  quoted_char : (c : ℕ) {bytes text : List ℕ} → IsScalar c → IsQuoted bytes text → IsQuoted (encode_utf8 c ++ bytes) (char_text c ++ text)
  quoted_byte : {b : ℕ} {bytes text : List ℕ} → StartsWithNoChar (b ∷ bytes) → IsQuoted bytes text → IsQuoted (b ∷ bytes) (codes "\\x" ++ hex_2 b ++ text)

abbrev pub truth_text : Bool → List ℕ
truth_text true = codes "true"
truth_text false = codes "false"

-- the text of a value
pub data IsValueText : Value → List ℕ → Type 0 where
  number : {x : _} → IsValueText (value.Int x) (signed_decimal x)
  truth : {b : Bool} → IsValueText (value.Truth b) (truth_text b)
  string : {bytes text : List ℕ} → IsQuoted bytes text → IsValueText (value.Str bytes) (34 ∷ (text ++ 34 ∷ []))

-- bytes went as they stand between quotes
abbrev pub AppendsQuoted : List ℕ → List ℕ → List ℕ → Type 0
AppendsQuoted bytes old new = (text : List ℕ) × IsQuoted bytes text × (new ≡ old ++ text)

-- a value went as text
abbrev pub AppendsValue : Value → List ℕ → List ℕ → Type 0
AppendsValue value old new = (text : List ℕ) × IsValueText value text × (new ≡ old ++ text)
