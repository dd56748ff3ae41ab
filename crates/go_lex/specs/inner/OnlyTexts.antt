-- The one text of a kind at the start of some bytes.
use Rattle.std.specs.Prelude.{◌≡◌, ◌<◌, ◌≤◌, not, ◌==◌, true, ℕ, List, ◌++◌, length, take}
use Rattle.std.specs.List.{list_all}
use Rattle.go_syntax.specs.declared.token.Meaning.{Meaning}
use Rattle.go_base.specs.Comments.{is_text}
use Rattle.go_syntax.specs.lexical.Quotes.{meaning_number, IsCharacter, AreCharacters}
use Rattle.go_syntax.specs.lexical.Lexemes.{quoted}

-- a text of this kind has this many bytes at the start, and no other begins the bytes
pub record IsOnly (P : List ℕ → Type 0) (bytes : List ℕ) (n : ℕ) : Type 0 where
  pub some : 0 < n
  pub within : n ≤ length bytes
  pub stands : P (take n bytes)
  pub only : (text more : List ℕ) → P text → bytes ≡ text ++ more → length text ≡ n

-- no text of this kind begins the bytes
abbrev pub HasNone : (List ℕ → Type 0) → List ℕ → Type 0
HasNone P bytes = (text more : List ℕ) → P text → bytes ≡ text ++ more → ⊥

-- a rune literal
abbrev pub IsRune : List ℕ → Type 0
IsRune text = (inner : List ℕ) × (meaning : Meaning) × IsCharacter 39 inner meaning × (text ≡ quoted 39 inner)

-- a rune literal of this number
abbrev pub IsRuneOf : List ℕ → ℕ → Type 0
IsRuneOf text number = (inner : List ℕ) × (meaning : Meaning) × IsCharacter 39 inner meaning × (text ≡ quoted 39 inner) × (number ≡ meaning_number meaning)

-- a string literal in double quotes
abbrev pub IsString : List ℕ → Type 0
IsString text = (inner : List ℕ) × (out : List ℕ) × AreCharacters 34 inner out × (text ≡ quoted 34 inner)

-- a raw string literal
abbrev pub IsRaw : List ℕ → Type 0
IsRaw text = (inner : List ℕ) × (is_text inner ≡ true) × (list_all (λ b. not (b == 96)) inner ≡ true) × (text ≡ quoted 96 inner)
