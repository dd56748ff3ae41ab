-- White space and comments.
-- Public source: Go specification, "Tokens" and "Comments". Beyond Go, a comment is UTF-8 without NUL.
use Rattle.std.specs.Prelude.{◌≡◌, ◌+◌, ℕ, Bool, ◌||◌, ◌&&◌, ◌==◌, not, if◌then◌else◌, Option, None, Some, option_map, List, [], ◌∷◌, length, take, drop, codes, bytes_eq}
use Rattle.std.specs.Str.{is_utf8}
use Rattle.std.specs.List.{position_or_len, list_all}

-- white space: a space, a tab, a carriage return or a newline
abbrev pub is_space : ℕ → Bool
is_space b = b == 32 || b == 9 || b == 13 || b == 10

-- a blank: a space or a tab
abbrev pub is_blank : ℕ → Bool
is_blank b = b == 32 || b == 9

-- the bytes begin with these
abbrev pub starts_with : List ℕ → List ℕ → Bool
starts_with start bytes = bytes_eq start (take (length start) bytes)

-- the bytes up to and with the first `*/`
abbrev pub close_len : List ℕ → Option ℕ
close_len [] = None
close_len (b ∷ bs) = if starts_with (codes "*/") (b ∷ bs) then Some 2 else option_map (λ n. n + 1) (close_len bs)

-- the bytes up to the next newline, or all
abbrev pub line_len : List ℕ → ℕ
line_len bytes = position_or_len (λ b. b == 10) bytes

-- UTF-8 without NUL
abbrev pub is_text : List ℕ → Bool
is_text bytes = is_utf8 bytes && list_all (λ b. not (b == 0)) bytes

-- so many bytes, where they are text
abbrev pub text_len : List ℕ → Option ℕ → Option ℕ
text_len bytes None = None
text_len bytes (Some n) = if is_text (take n bytes) then Some n else None

-- the length of the comment that the bytes begin with
unfoldable pub comment_len : List ℕ → Option ℕ
comment_len bytes =
    if starts_with (codes "//") bytes then text_len bytes (Some (line_len bytes))
    else (if starts_with (codes "/*") bytes then text_len bytes (option_map (λ n. n + 2) (close_len (drop 2 bytes)))
    else None)

-- the length of the white space character or comment that the bytes begin with
abbrev pub piece_len : List ℕ → Option ℕ
piece_len [] = None
piece_len (b ∷ bs) = if is_space b then Some 1 else comment_len (b ∷ bs)

-- the bytes are these white space characters and comments, and a rest that begins with none
pub data IsFront : List ℕ → List (List ℕ) → List ℕ → Type 0 where
  front_end : {rest : List ℕ} → piece_len rest ≡ None → IsFront rest [] rest
  front_more : {bytes : List ℕ} {n : ℕ} {pieces : List (List ℕ)} {rest : List ℕ} → piece_len bytes ≡ Some n → IsFront (drop n bytes) pieces rest → IsFront bytes (take n bytes ∷ pieces) rest

-- the bytes without a byte order mark in front
abbrev pub without_mark : List ℕ → List ℕ
without_mark bytes = if starts_with (239 ∷ 187 ∷ 191 ∷ []) bytes then drop 3 bytes else bytes
