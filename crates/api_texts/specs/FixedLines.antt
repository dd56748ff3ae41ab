-- The fault lines that don't depend on the input.
-- Own: this project's reports and exit statuses.
use Rattle.std.specs.Prelude.{ℕ, List, codes}

-- the fault line for words that aren't good
abbrev pub words_line : List ℕ
words_line = codes "apigate: usage: apigate features or frozen or judge or advise or gate or skipped or vet or make, then options\n"

abbrev pub read_line : List ℕ
read_line = codes "apigate: read fault\n"

abbrev pub write_line : List ℕ
write_line = codes "apigate: write fault\n"

abbrev pub memory_line : List ℕ
memory_line = codes "apigate: out of memory\n"
