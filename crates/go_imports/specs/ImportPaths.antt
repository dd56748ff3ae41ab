-- Paths of packages: which lie under which, the directories named `internal`, and the assumed name of an import path.
-- Public source: the documentation of Go's command line, "Internal Directories" (code in or below such a directory is importable only by code in the
-- tree rooted at its parent), and package golang.org/x/tools/internal/imports, `ImportPathToAssumedName`. Own: a version is `v` before digits alone, and `v+1` is none; a name is
-- cut at the first byte that isn't of ASCII.
use Rattle.std.specs.Prelude.{◌≡◌, ◌≤◌, ◌<◌, ◌⊎◌, ◌-◌, ◌+◌, ℕ, Bool, true, nat_eq, nat_le, nat_lt, ◌&&◌, ◌||◌, if◌then◌else◌, Option, Some, None, List, [], ◌∷◌, ◌++◌, length, take, drop, get_or, codes}
use Rattle.std.specs.List.{list_all, slice_split, starts_with, prefix_len}

abbrev pub is_slash : ℕ → Bool
is_slash b = nat_eq b 47

-- a path equals another or lies under it
abbrev pub IsUnder : List ℕ → List ℕ → Type 0
IsUnder path root = (path ≡ root) ⊎ ((rest : List ℕ) × (path ≡ root ++ 47 ∷ rest))

-- an element of a path begins at a place, or ends before it
abbrev pub Begins : List ℕ → ℕ → Type 0
Begins path at = (at ≡ 0) ⊎ ((0 < at) × (get_or path (at - 1) 0 ≡ 47))

abbrev pub Ends : List ℕ → ℕ → Type 0
Ends path end = (end ≡ length path) ⊎ ((end < length path) × (get_or path end 0 ≡ 47))

-- at this place of a path stands an element `internal`
pub record IsInternalAt (path : List ℕ) (at : ℕ) : Type 0 where
  pub within : at ≤ length path
  pub word : starts_with nat_eq (drop at path) (codes "internal") ≡ true
  pub begins : Begins path at
  pub ends : Ends path (at + 8)

-- the last such element
pub record IsLastInternal (path : List ℕ) (at : ℕ) : Type 0 where
  pub here : IsInternalAt path at
  pub last : (k : ℕ) → IsInternalAt path k → k ≤ at

-- the part before the element: the importer's path equals it or lies under it; where that part is empty, the importer is of the standard library
abbrev pub IsInTree : List ℕ → Bool → List ℕ → ℕ → Type 0
IsInTree importer from_std path at = ((at ≡ 0) × (from_std ≡ true)) ⊎ ((0 < at) × IsUnder importer (take (at - 1) path))

-- the path may not be imported here
abbrev pub IsInternalUse : List ℕ → Bool → List ℕ → Type 0
IsInternalUse importer from_std path = (at : ℕ) × IsLastInternal path at × (IsInTree importer from_std path at → ⊥)

-- `v` and then one digit or more
abbrev pub is_digit : ℕ → Bool
is_digit b = nat_le 48 b && nat_le b 57

abbrev pub is_version : List ℕ → Bool
is_version name = starts_with nat_eq name (codes "v") && nat_lt 1 (length name) && list_all is_digit (drop 1 name)

-- a last element, or where it is a version the one before it
abbrev pub unversioned : Option (List ℕ) → List ℕ → List ℕ
unversioned None last = last
unversioned (Some before) last = if is_version last then before else last

-- the last of some elements, or where it is a version the one before it
abbrev pub last_after : Option (List ℕ) → List ℕ → List (List ℕ) → List ℕ
last_after before last [] = unversioned before last
last_after before last (x ∷ xs) = last_after (Some last) x xs

abbrev pub last_of : Option (List ℕ) → List (List ℕ) → List ℕ
last_of before [] = []
last_of before (x ∷ xs) = last_after before x xs

abbrev pub without_go : List ℕ → List ℕ
without_go name = if starts_with nat_eq name (codes "go-") then drop 3 name else name

-- an ASCII letter, a digit or `_`
abbrev pub is_name_byte : ℕ → Bool
is_name_byte b = (nat_le 97 b && nat_le b 122) || (nat_le 65 b && nat_le b 90) || is_digit b || nat_eq b 95

-- a name up to the first other byte
abbrev pub name_front : List ℕ → List ℕ
name_front name = take (prefix_len is_name_byte name) name

-- the assumed name of an import path: that of its last element, not counting a version, without `go-`, and up to the first byte that is in no
-- name of ASCII; it may be empty
abbrev pub assumed_name : List ℕ → List ℕ
assumed_name path = name_front (without_go (last_of None (slice_split is_slash path)))
