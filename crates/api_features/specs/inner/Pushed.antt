-- What the functions that append texts answer.
use Rattle.std.specs.Prelude.{◌≡◌, ◌<◌, ◌≤◌, ℕ, List, ◌++◌, length, drop}
use Rattle.api_features.specs.ConstantTexts.{IsQuoted}

-- so many bytes went as one piece in front of what the others become
pub record AppendsPiece (bytes old new : List ℕ) (count : ℕ) : Type 0 where
  pub some : 0 < count
  pub within : count ≤ length bytes
  pub piece : List ℕ
  pub is : new ≡ old ++ piece
  pub quoted : (text : List ℕ) → IsQuoted (drop count bytes) text → IsQuoted bytes (piece ++ text)
