-- Paths, and the entry that a path has in a folder.
-- Own: the edge to files and streams.
use Rattle.std.specs.Prelude.{ℕ, Bool, not, nat_eq, if◌then◌else◌, Option, Some, None, List, [], ◌∷◌, length, take, drop}
use Rattle.std.specs.List.{prefix_len}
use Rattle.std.specs.Cmp.Lexicographic.{pointwise}
use Rattle.go_outside.specs.declared.files.Entry.{Entry}
use Rattle.go_outside.specs.declared.files.EntryKind.TheVariants as kind

abbrev pub Path : Type 0
Path = List ℕ

-- what follows a prefix
abbrev pub after : Path → Path → Option Path
after prefix path = if pointwise nat_eq (take (length prefix) path) prefix then Some (drop (length prefix) path) else None

abbrev pub after_slash : Option Path → Option Path
after_slash None = None
after_slash (Some rest) = after (47 ∷ []) rest

-- what follows a folder's name and a slash
abbrev pub within : Path → Path → Option Path
within folder path = after_slash (after folder path)

abbrev pub not_slash : ℕ → Bool
not_slash b = not (nat_eq b 47)

-- the first element of a path is a file where nothing follows it, and else a folder
abbrev pub entry_at : Path → ℕ → Entry
entry_at rest n = record { name = take n rest; kind = if nat_eq n (length rest) then kind.File else kind.Folder }

abbrev pub entry_of_rest : Option Path → Option Entry
entry_of_rest None = None
entry_of_rest (Some rest) = Some (entry_at rest (prefix_len not_slash rest))

-- the entry that a path has in a folder, where it lies in that folder
abbrev pub entry_of : Path → Path → Option Entry
entry_of folder path = entry_of_rest (within folder path)
