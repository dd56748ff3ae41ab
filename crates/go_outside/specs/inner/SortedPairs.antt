-- Pairs in the order of their paths, by which a store in memory finds and lists.
use Rattle.std.specs.Prelude.{◌≡◌, ◌≤◌, ◌<◌, ℕ, Bool, true, false, Option, Some, None, List, length, slice_index_or}
use Rattle.std.specs.Ordering.{nat_cmp, is_lt}
use Rattle.std.specs.Cmp.Lexicographic.{slice_cmp}
use Rattle.std.specs.List.Sorted.{IsSortedBy, IsPartitionPoint}
use Rattle.go_outside.specs.declared.files.Entry.{Entry}
use Rattle.go_outside.specs.declared.memory_files.FilePair.{FilePair}
use Rattle.go_outside.specs.Paths.{Path, entry_of}
use Rattle.go_outside.specs.Stores.{IsListing}
use Rattle.go_outside.specs.MemoryFiles.{Clashes}

-- the first path comes before the second
abbrev pub is_before : Path → Path → Bool
is_before a b = is_lt (slice_cmp nat_cmp a b)

abbrev pub path_at : List FilePair → ℕ → FilePair → Path
path_at pairs k d = (slice_index_or pairs k d).path

-- no path comes before the one that it follows
abbrev pub IsSorted : List FilePair → Type 0
IsSorted pairs = IsSortedBy (λ p q. is_before p.path q.path) pairs

-- each path comes before all that follow it
abbrev pub IsRising : List FilePair → Type 0
IsRising pairs = (i j : ℕ) (d : FilePair) → i < j → j < length pairs → is_before (path_at pairs i d) (path_at pairs j d) ≡ true

-- the pairs below the index have paths before the key, and the others don't
abbrev pub IsFirstFrom : List FilePair → Path → ℕ → Type 0
IsFirstFrom pairs key at = IsPartitionPoint (λ p. is_before p.path key ≡ true) (λ p. is_before p.path key ≡ false) pairs at

-- the path stands below the index
abbrev pub StandsBelow : List FilePair → ℕ → Path → Type 0
StandsBelow pairs at path = (k : ℕ) × (d : FilePair) × (k < at) × (path_at pairs k d ≡ path)

-- the entries of the pairs below the index
abbrev pub IsListingBelow : List FilePair → ℕ → Path → List Entry → Type 0
IsListingBelow pairs at folder entries = IsListing (StandsBelow pairs at) folder entries

-- from an index on, the pairs of one entry stand up to the next index, and none beyond
pub record IsPast (pairs : List FilePair) (folder : Path) (at : ℕ) (entry : Entry) (next : ℕ) : Type 0 where
  pub beyond : at < next
  pub within_pairs : next ≤ length pairs
  pub same : (k : ℕ) (d : FilePair) → at ≤ k → k < next → entry_of folder (path_at pairs k d) ≡ Some entry
  pub others : (k : ℕ) (d : FilePair) → next ≤ k → k < length pairs → entry_of folder (path_at pairs k d) ≡ Some entry → ⊥

-- no path below the index clashes
abbrev pub IsClearBelow : List FilePair → ℕ → Type 0
IsClearBelow pairs at = (k : ℕ) (d : FilePair) → k < at → Clashes pairs (path_at pairs k d) → ⊥

-- the first path that clashes stands at the index, where any does
abbrev pub IsFirstClash : List FilePair → Option ℕ → Type 0
IsFirstClash pairs None = IsClearBelow pairs (length pairs)
IsFirstClash pairs (Some at) = (at < length pairs) × ((d : FilePair) → Clashes pairs (path_at pairs at d)) × IsClearBelow pairs at
