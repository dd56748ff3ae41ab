-- Rune and string literals.
-- Public source: Go specification, "Rune literals" and "String literals".
use Rattle.std.specs.Prelude.{◌≡◌, ◌≤◌, ℕ, Bool, true, ◌||◌, ◌==◌, not, if◌then◌else◌, Option, Some, None, List, [], ◌∷◌, ◌++◌, length}
use Rattle.std.specs.List.{filter}
use Rattle.std.specs.Char.{IsScalar, encode_utf8}
use Rattle.go_base.specs.Lists.{Passes}
use Rattle.go_syntax.specs.lexical.Numbers.{is_digit_of, value_from}
use Rattle.go_syntax.specs.declared.token.Meaning.{Meaning}
use Rattle.go_syntax.specs.declared.token.Meaning.TheVariants.{Character, Byte}

-- the number of a meaning
abbrev pub meaning_number : Meaning → ℕ
meaning_number (Character c) = c
meaning_number (Byte b) = b

-- the bytes of a meaning
abbrev pub meaning_bytes : Meaning → List ℕ
meaning_bytes (Character c) = encode_utf8 c
meaning_bytes (Byte b) = b ∷ []

-- a character that stands for itself between such quotes: no quote, backslash, newline or NUL
abbrev pub is_plain : ℕ → ℕ → Bool
is_plain quote c = not (c == quote || (c == 92 || (c == 10 || c == 0)))

-- the character that a letter or sign behind a backslash stands for, between such quotes
abbrev pub sign_of : ℕ → ℕ → Option ℕ
sign_of quote e =
    if e == 97 then Some 7 else (if e == 98 then Some 8 else (if e == 102 then Some 12 else (if e == 110 then Some 10
    else (if e == 114 then Some 13 else (if e == 116 then Some 9 else (if e == 118 then Some 11
    else (if e == 92 then Some 92 else (if e == quote then Some quote else None))))))))

-- how many hexadecimal digits of a character follow `u` and `U`
abbrev pub count_of : ℕ → Option ℕ
count_of e = if e == 117 then Some 4 else (if e == 85 then Some 8 else None)

-- so many digits of a base, with this value
pub record AreCounted (base count : ℕ) (ds : List ℕ) : Type 0 where
  pub digits : Passes (is_digit_of base) ds
  pub count_is : length ds ≡ count

-- a character or an escape between such quotes
pub data IsCharacter (quote : ℕ) : List ℕ → Meaning → Type 0 where
  plain : {c : ℕ} → IsScalar c → is_plain quote c ≡ true → IsCharacter quote (encode_utf8 c) (Character c)
  sign : {e c : ℕ} → sign_of quote e ≡ Some c → IsCharacter quote (92 ∷ (e ∷ [])) (Character c)
  octal : {ds : List ℕ} → AreCounted 8 3 ds → value_from 8 0 ds ≤ 255 → IsCharacter quote (92 ∷ ds) (Byte (value_from 8 0 ds))
  hexadecimal : {ds : List ℕ} → AreCounted 16 2 ds → IsCharacter quote (92 ∷ (120 ∷ ds)) (Byte (value_from 16 0 ds))
  point : {e count : ℕ} {ds : List ℕ} → count_of e ≡ Some count → AreCounted 16 count ds → IsScalar (value_from 16 0 ds) →
      IsCharacter quote (92 ∷ (e ∷ ds)) (Character (value_from 16 0 ds))

-- characters and escapes between such quotes, and the bytes that they stand for
pub data AreCharacters (quote : ℕ) : List ℕ → List ℕ → Type 0 where
  no_character : AreCharacters quote [] []
  character_more : {text rest bytes : List ℕ} {meaning : Meaning} → IsCharacter quote text meaning → AreCharacters quote rest bytes →
      AreCharacters quote (text ++ rest) (meaning_bytes meaning ++ bytes)

-- a raw string's bytes: those between its quotes but carriage returns
abbrev pub raw_bytes : List ℕ → List ℕ
raw_bytes text = filter (λ b. not (b == 13)) text
