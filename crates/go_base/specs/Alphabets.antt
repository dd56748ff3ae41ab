-- The characters of names and of tags.
-- Public source: Go specification, "Letters and digits", "Identifiers"; package go/build/constraint for tags.
use Rattle.std.specs.Prelude.{◌≡◌, ℕ, Bool, true, List, ◌++◌, drop}
use Rattle.std.specs.Char.{IsScalar, encode_utf8, len_utf8}
use Rattle.go_base.specs.Characters.{is_name_character, is_tag_character}
use Rattle.go_base.specs.declared.characters.Alphabet.{Alphabet}
use Rattle.go_base.specs.declared.characters.Alphabet.TheVariants as alphabet

-- the alphabet has the character
abbrev pub has : Alphabet → ℕ → Bool
has alphabet.Name = is_name_character
has alphabet.Tag = is_tag_character

-- the bytes begin with a character of so many bytes that passes the test
abbrev pub BeginsWith : (ℕ → Bool) → List ℕ → ℕ → Type 0
BeginsWith test bytes n = (c : ℕ) × (test c ≡ true) × IsScalar c × (n ≡ len_utf8 c) × (bytes ≡ encode_utf8 c ++ drop n bytes)
