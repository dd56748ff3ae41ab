-- Entries of declarations by their numbers, as the code has them.
-- Own: words of the contracts.
use Rattle.std.specs.Prelude.{List, Option, None, Some, get_or}
use denote.Ref.{Bor}
use Rattle.go_entries.specs.Entries.{entry_of}
use Rattle.go_entries.specs.declared.entry.Entry.{Entry as Had}
use Rattle.go_typings.specs.PackageEnvironments.{Entries, Entry}

abbrev pub given : Option Had → Option Entry
given None = None
given (Some x) = Some (entry_of x)

-- the entries that are had
abbrev pub entries_at : List (Option Had) → Entries
entries_at xs n = given (get_or xs n None)

abbrev pub found_entry : Option (Bor Had) → Option Entry
found_entry None = None
found_entry (Some x) = Some (entry_of x.now)
