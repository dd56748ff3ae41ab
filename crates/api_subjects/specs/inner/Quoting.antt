-- A function that quotes as lines of features do.
use lib.Utf8.{scalar}
use Rattle.std.specs.Prelude.{ℕ, zero, suc, ◌-◌, Bool, ◌&&◌, List, [], ◌∷◌, ◌++◌, take, codes, if◌then◌else◌}
use Rattle.std.specs.Char.{encode_utf8, len_utf8}
use Rattle.std.specs.Str.{bytes_eq, chars}
use Rattle.api_features.specs.ConstantTexts.{char_text, hex_2}

-- whether bytes begin with the character
abbrev pub begins : List ℕ → ℕ → Bool
begins bytes c = scalar c && bytes_eq (take (len_utf8 c) bytes) (encode_utf8 c)

-- what stands for bytes at the front, and how many bytes behind the first one it stands for
pub record Piece : Type 0 where
  pub text : List ℕ
  pub more : ℕ

abbrev pub byte_piece : ℕ → Piece
byte_piece b = record { text = codes "\\x" ++ hex_2 b; more = 0 }

abbrev pub char_piece : ℕ → Piece
char_piece c = record { text = char_text c; more = len_utf8 c - 1 }

-- the piece of bytes that begin with a byte, by the characters that they spell
abbrev pub piece_of : ℕ → List ℕ → List ℕ → Piece
piece_of b bytes [] = byte_piece b
piece_of b bytes (c ∷ cs) = if begins bytes c then char_piece c else byte_piece b

abbrev pub piece_at : ℕ → List ℕ → Piece
piece_at b bytes = piece_of b (b ∷ bytes) (chars (b ∷ bytes))

-- bytes quoted, but for so many at the front
abbrev pub quoted_from : ℕ → List ℕ → List ℕ
quoted_from n [] = []
quoted_from zero (b ∷ bs) = (piece_at b bs).text ++ quoted_from (piece_at b bs).more bs
quoted_from (suc n) (b ∷ bs) = quoted_from n bs

unfoldable pub quoted : List ℕ → List ℕ
quoted bytes = quoted_from 0 bytes
