-- The characters and escapes at the start of some bytes.
use Rattle.std.specs.Prelude.{◌≡◌, ◌<◌, ◌≤◌, ◌+◌, true, ℕ, List, ◌∷◌, ◌++◌, length, take}
use Rattle.go_syntax.specs.declared.token.Meaning.{Meaning}
use Rattle.go_syntax.specs.declared.token.Meaning.TheVariants.{Character, Byte}
use Rattle.std.specs.Char.{IsScalar, encode_utf8}
use Rattle.go_syntax.specs.lexical.Numbers.{value_from}
use Rattle.go_syntax.specs.lexical.Quotes.{AreCounted, IsCharacter, is_plain}
use Rattle.go_lex.specs.declared.quote.Character.{Character as CharacterPrefix}

-- so many digits at the start have this value
pub record HasCounted (base count : ℕ) (bytes : List ℕ) (value : ℕ) : Type 0 where
  pub within : count ≤ length bytes
  pub counted : AreCounted base count (take count bytes)
  pub value_is : value ≡ value_from base 0 (take count bytes)

-- a character or an escape at the start
pub record BeginsCharacter (quote : ℕ) (bytes : List ℕ) (character : CharacterPrefix) : Type 0 where
  pub some : 0 < character.len
  pub within : character.len ≤ length bytes
  pub stands : IsCharacter quote (take character.len bytes) character.meaning

-- the escapes by what follows the backslash, or the letter behind it
pub record IsOctal (rest : List ℕ) (character : CharacterPrefix) : Type 0 where
  pub within : 3 ≤ length rest
  pub counted : AreCounted 8 3 (take 3 rest)
  pub byte : value_from 8 0 (take 3 rest) ≤ 255
  pub len_is : character.len ≡ 4
  pub meaning_is : character.meaning ≡ Byte (value_from 8 0 (take 3 rest))

abbrev pub HasNoOctal : List ℕ → Type 0
HasNoOctal rest = (ds more : List ℕ) → AreCounted 8 3 ds → value_from 8 0 ds ≤ 255 → rest ≡ ds ++ more → ⊥

pub record IsHexadecimal (more : List ℕ) (character : CharacterPrefix) : Type 0 where
  pub within : 2 ≤ length more
  pub counted : AreCounted 16 2 (take 2 more)
  pub len_is : character.len ≡ 4
  pub meaning_is : character.meaning ≡ Byte (value_from 16 0 (take 2 more))

pub record IsPoint (count : ℕ) (more : List ℕ) (character : CharacterPrefix) : Type 0 where
  pub within : count ≤ length more
  pub counted : AreCounted 16 count (take count more)
  pub scalar : IsScalar (value_from 16 0 (take count more))
  pub len_is : character.len ≡ 2 + count
  pub meaning_is : character.meaning ≡ Character (value_from 16 0 (take count more))

abbrev pub HasNoPoint : ℕ → List ℕ → Type 0
HasNoPoint count more = (ds rest : List ℕ) → AreCounted 16 count ds → IsScalar (value_from 16 0 ds) → more ≡ ds ++ rest → ⊥

-- a character that stands for itself
pub record IsPlain (quote : ℕ) (bytes : List ℕ) (character : CharacterPrefix) : Type 0 where
  pub c : ℕ
  pub rest : List ℕ
  pub joined : bytes ≡ encode_utf8 c ++ rest
  pub scalar : IsScalar c
  pub plain_is : is_plain quote c ≡ true
  pub len_is : character.len ≡ length (encode_utf8 c)
  pub meaning_is : character.meaning ≡ Character c

abbrev pub HasNoPlain : ℕ → List ℕ → Type 0
HasNoPlain quote bytes = (c : ℕ) (rest : List ℕ) → IsScalar c → is_plain quote c ≡ true → bytes ≡ encode_utf8 c ++ rest → ⊥

-- an escape behind a backslash at the start
abbrev pub BeginsEscape : ℕ → List ℕ → CharacterPrefix → Type 0
BeginsEscape quote rest character = BeginsCharacter quote (92 ∷ rest) character

-- no character and no escape at the start
abbrev pub BeginsNoCharacter : ℕ → List ℕ → Type 0
BeginsNoCharacter quote bytes = (text more : List ℕ) (meaning : Meaning) → IsCharacter quote text meaning → bytes ≡ text ++ more → ⊥

-- no so many digits at the start
abbrev pub HasNoCounted : ℕ → ℕ → List ℕ → Type 0
HasNoCounted base count bytes = (ds more : List ℕ) → AreCounted base count ds → bytes ≡ ds ++ more → ⊥
