-- Tables of names.
-- Own: words on lists.
use Rattle.std.specs.Prelude.{ℕ, List, [], Option}
use Rattle.std.specs.BTreeMap.{insert_entry}
use Rattle.std.specs.Cmp.Lexicographic.{slice_cmp}
use Rattle.std.specs.Map.{lookup}
use Rattle.std.specs.Option.{unwrap_or}
use Rattle.std.specs.Ordering.{nat_cmp}
use Rattle.std.specs.Str.{bytes_eq}

-- names in the order of bytes, with what each has
abbrev pub Named : Type 0 → Type 0
Named A = List (List ℕ × A)

-- what a name has
abbrev pub value_at : {A : Type 0} → Named A → List ℕ → Option A
value_at names name = lookup (bytes_eq name) names

-- the names where this one has the value, in place of one that it had
abbrev pub with_value : {A : Type 0} → Named A → List ℕ → A → Named A
with_value names name value = insert_entry (slice_cmp nat_cmp) names name value

-- what a name has, where it has a list; else the empty one
abbrev pub items_at : {A : Type 0} → Named (List A) → List ℕ → List A
items_at names name = unwrap_or (value_at names name) []
