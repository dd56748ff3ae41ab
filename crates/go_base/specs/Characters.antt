-- Letters and digits of names, and runs of characters in bytes, which need not be UTF-8 behind them.
-- Public source: Go specification, "Characters", "Letters and digits", "Identifiers" and "Exported identifiers", with the
-- general categories of the Unicode Standard.
use Rattle.std.specs.Prelude.{◌≡◌, ℕ, Bool, true, false, ◌||◌, ◌==◌, List, [], ◌++◌}
use Rattle.std.specs.Char.{IsScalar, encode_utf8}
use Rattle.unicode.specs.GeneralCategory.{general_category}
use Rattle.ucd_category.specs.declared.GeneralCategory.{GeneralCategory}
use Rattle.ucd_category.specs.declared.GeneralCategory.TheVariants as category

-- Lu, Ll, Lt, Lm and Lo
abbrev pub is_letter_category : GeneralCategory → Bool
is_letter_category category.UppercaseLetter = true
is_letter_category category.LowercaseLetter = true
is_letter_category category.TitlecaseLetter = true
is_letter_category category.ModifierLetter = true
is_letter_category category.OtherLetter = true
is_letter_category _ = false

-- Lu
abbrev pub is_upper_category : GeneralCategory → Bool
is_upper_category category.UppercaseLetter = true
is_upper_category _ = false

-- Nd
abbrev pub is_digit_category : GeneralCategory → Bool
is_digit_category category.DecimalNumber = true
is_digit_category _ = false

-- a letter: the underscore counts as one
abbrev pub is_letter : ℕ → Bool
is_letter c = c == 95 || is_letter_category (general_category c)

-- an upper-case letter, as an exported name begins with
abbrev pub is_upper : ℕ → Bool
is_upper c = is_upper_category (general_category c)

-- a character that a name may go on with
abbrev pub is_name_character : ℕ → Bool
is_name_character c = is_letter c || is_digit_category (general_category c)

-- a character of a build tag
abbrev pub is_tag_character : ℕ → Bool
is_tag_character c = c == 46 || is_name_character c

-- the bytes begin with a character that passes the test
abbrev pub BeginsPassing : (ℕ → Bool) → List ℕ → Type 0
BeginsPassing test bytes = (c : ℕ) × (rest : List ℕ) × (test c ≡ true) × IsScalar c × (bytes ≡ encode_utf8 c ++ rest)

-- the front is all the characters that pass the test, up to the rest
pub data IsRun (test : ℕ → Bool) : List ℕ → List ℕ → Type 0 where
  run_end : {rest : List ℕ} → (BeginsPassing test rest → ⊥) → IsRun test [] rest
  run_more : {c : ℕ} {front rest : List ℕ} → test c ≡ true → IsScalar c → IsRun test front rest → IsRun test (encode_utf8 c ++ front) rest
