-- Names at the start of some bytes.
use Rattle.std.specs.Prelude.{◌≡◌, ◌<◌, ◌≤◌, true, ℕ, List, [], ◌++◌, length, take}
use Rattle.std.specs.Char.{IsScalar, encode_utf8}
use Rattle.go_base.specs.Characters.{is_letter, is_name_character, IsRun}

-- a name: a letter, and letters and digits
abbrev pub IsName : List ℕ → Type 0
IsName text = (c : ℕ) × (cs : List ℕ) × (is_letter c ≡ true) × IsScalar c × IsRun is_name_character cs [] × (text ≡ encode_utf8 c ++ cs)

-- the longest name at the start
pub record IsLongestName (bytes : List ℕ) (n : ℕ) : Type 0 where
  pub some : 0 < n
  pub within : n ≤ length bytes
  pub stands : IsName (take n bytes)
  pub longest : (text more : List ℕ) → IsName text → bytes ≡ text ++ more → length text ≤ n

-- no name begins the bytes
abbrev pub HasNoName : List ℕ → Type 0
HasNoName bytes = (text more : List ℕ) → IsName text → bytes ≡ text ++ more → ⊥
