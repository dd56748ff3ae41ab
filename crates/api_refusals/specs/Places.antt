-- Places in files, as fault lines print them.
-- Own: this project's reports and exit statuses.
use Rattle.std.specs.Prelude.{ℕ, ◌+◌, Bool, nat_eq, if◌then◌else◌, List, [], ◌∷◌, ◌++◌, length, take, codes, bytes_eq}
use Rattle.std.specs.Fmt.{decimal}
use Rattle.std.specs.List.{filter, list_any}
use Rattle.go_load.specs.Names.{under}
use Rattle.go_model.specs.declared.files.tree.TreeFile.{TreeFile}

abbrev pub is_newline : ℕ → Bool
is_newline b = nat_eq b 10

-- the bytes behind the last newline: all of them, where there is none
abbrev pub last_line : List ℕ → List ℕ
last_line [] = []
last_line (b ∷ bs) = if list_any is_newline (b ∷ bs) then last_line bs else b ∷ bs

-- the line of an offset, from 1, by the newlines before it
abbrev pub line_at : List ℕ → ℕ → ℕ
line_at bytes offset = 1 + length (filter is_newline (take offset bytes))

-- its column, from 1, by the bytes since the last newline before it
abbrev pub column_at : List ℕ → ℕ → ℕ
column_at bytes offset = 1 + length (last_line (take offset bytes))

-- `:LINE:COLUMN`
abbrev pub place_text : List ℕ → ℕ → List ℕ
place_text bytes offset = codes ":" ++ decimal (line_at bytes offset) ++ codes ":" ++ decimal (column_at bytes offset)

-- a file's path below the root of its tree
abbrev pub file_path : TreeFile → List ℕ
file_path file = under file.folder file.name

-- the bytes of the first file with a path, and none where there is no such file
abbrev pub bytes_at : List TreeFile → List ℕ → List ℕ
bytes_at [] path = []
bytes_at (f ∷ fs) path = if bytes_eq (file_path f) path then f.bytes else bytes_at fs path

-- `FILE:LINE:COLUMN` of a place in a file of a client, as its report prints it
abbrev pub client_place : List TreeFile → List ℕ → ℕ → List ℕ
client_place client path offset = path ++ place_text (bytes_at client path) offset
