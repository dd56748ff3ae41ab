-- The module line of a file `go.mod`.
-- Public source: Go Modules Reference, "go.mod files": "Lexical elements", "Module paths" and "Grammar". Of the grammar only the directive `module` is read,
-- in the form of one line; only newlines end lines, so a carriage return belongs to its line.
use Rattle.std.specs.Prelude.{◌≡◌, ◌⊎◌, ℕ, Bool, true, not, ◌||◌, nat_eq, if◌then◌else◌, List, [], ◌∷◌, ◌++◌, take, drop, filter, codes}
use Rattle.std.specs.List.{prefix_len, slice_split, list_all}
use Rattle.go_base.specs.Comments.{is_blank}
use Rattle.go_model.specs.files.Trees.{IsModulePath}
use Rattle.go_load.specs.Names.{begins, is_text}

abbrev pub is_visible : ℕ → Bool
is_visible b = not (is_blank b)

-- a line from its first word on
abbrev pub from_word : List ℕ → List ℕ
from_word line = drop (prefix_len is_blank line) line

-- the first word of a line: its first bytes that are no blanks
abbrev pub first_word : List ℕ → List ℕ
first_word line = take (prefix_len is_visible (from_word line)) (from_word line)

-- what follows the first word
abbrev pub after_word : List ℕ → List ℕ
after_word line = drop (prefix_len is_visible (from_word line)) (from_word line)

-- a line up to its comment
abbrev pub before_comment : List ℕ → List ℕ
before_comment [] = []
before_comment (b ∷ bs) = if begins (b ∷ bs) (codes "//") then [] else b ∷ before_comment bs

-- a line whose first word is `module`
abbrev pub is_module_line : List ℕ → Bool
is_module_line line = is_text (first_word line) (codes "module")

abbrev pub module_lines : List ℕ → List (List ℕ)
module_lines bytes = filter is_module_line (slice_split (λ b. nat_eq b 10) bytes)

-- a path is written bare, or between double quotes, or between backquotes
abbrev pub IsWritten : List ℕ → List ℕ → Type 0
IsWritten written path = (written ≡ path) ⊎ (written ≡ 34 ∷ (path ++ 34 ∷ [])) ⊎ (written ≡ 96 ∷ (path ++ 96 ∷ []))

-- the word after the first one, and what follows that before the comment
abbrev pub second_word : List ℕ → List ℕ
second_word line = first_word (before_comment (after_word line))

abbrev pub after_second : List ℕ → List ℕ
after_second line = after_word (before_comment (after_word line))

-- the second word of a line writes the path, and nothing but blanks and a comment follow it
pub record Names (line path : List ℕ) : Type 0 where
  pub written : IsWritten (second_word line) path
  pub alone : list_all is_blank (after_second line) ≡ true

-- the module of a `go.mod`: it has one module line, which names the path of a module
pub record IsModuleOf (bytes path : List ℕ) : Type 0 where
  pub line : List ℕ
  pub only : module_lines bytes ≡ line ∷ []
  pub names : Names line path
  pub path_of : IsModulePath path
