-- Which declarations have an entry, as flags.
use Rattle.std.specs.Prelude.{Bool, List, Option, map, is_some}
use Rattle.go_packages.specs.go_entries.declared.entry.Entry.{Entry}

abbrev pub is_entered : Option Entry → Bool
is_entered x = is_some x

abbrev pub entered : List (Option Entry) → List Bool
entered xs = map is_entered xs
