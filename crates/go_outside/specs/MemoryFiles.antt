-- Stores in memory: what pairs of a path and its bytes tell, and the paths among them that clash.
-- Own: the edge to files and streams.
use Rattle.std.specs.Prelude.{◌≡◌, ◌≢◌, ◌≤◌, ◌⊎◌, ◌↔◌, ℕ, nat_eq, Some, None, List, map, count_by}
use Rattle.std.specs.Cmp.Lexicographic.{pointwise}
use Rattle.std.specs.FinMap.{get, from_entries}
use Rattle.go_base.specs.Lists.{Has, Before}
use Rattle.go_outside.specs.declared.memory_files.FilePair.{FilePair}
use Rattle.go_outside.specs.declared.memory_files.MemoryFilesError.{MemoryFilesError}
use Rattle.go_outside.specs.declared.memory_files.MemoryFilesError.TheVariants as error
use Rattle.go_outside.specs.Paths.{Path, within}
use Rattle.go_outside.specs.Stores.{Contents}

-- the bytes at each path
abbrev pub contents_of : List FilePair → Contents
contents_of pairs = from_entries (map (λ p. (p.path, p.bytes)) pairs)

-- the contents are these pairs, and nothing else
abbrev pub Tells : Contents → List FilePair → Type 0
Tells m pairs = (path : Path) (bytes : List ℕ) → (get m path ≡ Some bytes) ↔ Has pairs (record { path = path; bytes = bytes })

-- the path stands twice among the pairs
abbrev pub IsTwice : List FilePair → Path → Type 0
IsTwice pairs path = 2 ≤ count_by (λ p. pointwise nat_eq p.path path) pairs

-- the path and a slash begin another
abbrev pub IsAbove : List FilePair → Path → Type 0
IsAbove pairs path = (other : FilePair) × Has pairs other × (within path other.path ≢ None)

abbrev pub Clashes : List FilePair → Path → Type 0
Clashes pairs path = IsTwice pairs path ⊎ IsAbove pairs path

-- a path among the pairs that clashes, and none before it does
pub record IsLeastClash (pairs : List FilePair) (path : Path) : Type 0 where
  pub stands : Has (map (λ p. p.path) pairs) path
  pub clash : Clashes pairs path
  pub least : (p : FilePair) → Has pairs p → Before p.path path → Clashes pairs p.path → ⊥

-- no path among the pairs clashes
abbrev pub IsClear : List FilePair → Type 0
IsClear pairs = (p : FilePair) → Has pairs p → Clashes pairs p.path → ⊥

-- why there is no store
abbrev pub ClashCause : List FilePair → MemoryFilesError → Type 0
ClashCause pairs (error.Clash path) = IsLeastClash pairs path
ClashCause pairs error.NoMemory = Unit {0}
