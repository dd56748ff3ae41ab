-- Items in the order of their texts, each text once.
-- Own.
use Rattle.std.specs.Prelude.{◌≡◌, ℕ, List, map}
use Rattle.std.specs.Ordering.{nat_cmp}
use Rattle.std.specs.Cmp.Lexicographic.{slice_cmp}
use Rattle.std.specs.List.Sorted.{IsStrictlySortedBy}
use Rattle.go_base.specs.Lists.{Has}

-- no item but the old ones, an item of each text, and the texts in the order of bytes
pub record IsArranged {P : Type 0} (text_of : P → List ℕ) (old new : List P) : Type 0 where
  pub sound : (p : P) → Has new p → Has old p
  pub complete : (p : P) → Has old p → (q : P) × Has new q × (text_of p ≡ text_of q)
  pub ordered : IsStrictlySortedBy (slice_cmp nat_cmp) (map text_of new)
