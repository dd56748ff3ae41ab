-- The numbers that are flagged until no row has a flagged one are those that lead into the set.
use Rattle.std.proofs.Common.{◌≡◌, ℕ, ◌<◌, ◌≤◌, Bool, true, List, [], length, ◌∙◌, subst, ◌⊎◌, inl, inr, arith}
use Rattle.std.proofs.lemmas.List.{get_or_past}
use Rattle.std.proofs.lemmas.Bool.Decides.{nat_tests}
use Rattle.std.specs.Prelude.{nat_lt}
use Rattle.go_base.specs.Lists.{Each, Has}
use Rattle.go_base.proofs.Members.{each_has}
use Rattle.go_graphs.specs.Flags.{AreFlagsOf, is_flagged}
use Rattle.go_graphs.specs.Walks.{LeadsInto, is_end, leads_by, row_of}
use Rattle.go_graphs.specs.inner.Marking.{IsClosure}
use Rattle.go_graphs.proofs.Flagging.{either, follows_keeps, follows_length, follows_sound}

-- one of the row is flagged
abbrev pub Any : List Bool → List ℕ → Type 0
Any flags row = (m : ℕ) × Has row m × (is_flagged flags m ≡ true)

pub within_or_past : (n k : ℕ) → (n < k) ⊎ (k ≤ n)
within_or_past n k = elim (either (nat_lt n k)) [ inl e ↦ inl (grind (arith, nat_tests, e)) | inr e ↦ inr (grind (arith, nat_tests, e)) ]

-- what has a member is one of the rows
pub row_within : (rows : List (List ℕ)) (n m : ℕ) → Has (row_of rows n) m → n < length rows
row_within rows n m h = elim (within_or_past n (length rows)) [ inl l ↦ l | inr g ↦ absurd (subst (λ (r : List ℕ). Has r m) (get_or_past rows n [] g) h) ]

module _ (rows : List (List ℕ)) (ends : List ℕ) (old new : List Bool) (start : AreFlagsOf (length rows) (Has ends) old) (c : IsClosure Any rows old new) where
  leads_next : (flags : List Bool) (n : ℕ) → ((m : ℕ) → is_flagged flags m ≡ true → LeadsInto rows ends m) → length flags ≡ length old → Any flags (row_of rows n) → LeadsInto rows ends n
  leads_next flags n h l k = leads_by k.0 k.1 (h k.0 k.2)

  size : length new ≡ length rows
  size = follows_length Any rows c.follows ∙ start.size

  leads : (m : ℕ) → is_flagged new m ≡ true → LeadsInto rows ends m
  leads m e = follows_sound Any rows (LeadsInto rows ends) leads_next c.follows (λ k f. is_end (start.sound k f)) m e

  flagged_by : (n m : ℕ) → Has (row_of rows n) m → is_flagged new m ≡ true → is_flagged new n ≡ true
  flagged_by n m h e = elim (either (is_flagged new n)) [ inl f ↦ f | inr f ↦ (let l = row_within rows n m h in absurd (c.closed n (omega (arith, l, size)) f (m, h, e))) ]

  all_leading : Each (λ n. n < length rows) ends → (n : ℕ) → LeadsInto rows ends n → is_flagged new n ≡ true
  all_leading below n (is_end h) = follows_keeps Any rows c.follows n (start.complete n (each_has (λ k. k < length rows) ends n below h) h)
  all_leading below n (leads_by m h w) = flagged_by n m h (all_leading below m w)

  pub leading_flags : Each (λ n. n < length rows) ends → AreFlagsOf (length rows) (LeadsInto rows ends) new
  leading_flags below = record { size = size; sound = leads; complete = λ n l w. all_leading below n w }
