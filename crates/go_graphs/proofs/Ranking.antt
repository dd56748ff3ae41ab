-- The numbers that are flagged until each other one has an unflagged one in its row are those that have a rank.
use Rattle.std.proofs.Common.{◌≡◌, ℕ, zero, suc, ◌<◌, ◌≤◌, Bool, true, false, List, [], ◌∷◌, length, get_or, refl, sym, ap, ◌∙◌, subst, inl, inr, arith}
use Rattle.std.proofs.lemmas.List.{get_or_past}
use Rattle.std.specs.Prelude.{replicate}
use Rattle.go_base.specs.Lists.{Has}
use Rattle.go_graphs.specs.Flags.{AreFlagsOf, is_flagged}
use Rattle.go_graphs.specs.Ranks.{HasRank, has_rank}
use Rattle.go_graphs.specs.Walks.{row_of}
use Rattle.go_graphs.specs.inner.Marking.{IsClosure}
use Rattle.go_graphs.proofs.Leading.{within_or_past}
use Rattle.go_graphs.proofs.Flagging.{apart, either, follows_length, follows_sound}

-- each of the row is flagged, or none of the flags'
abbrev pub All : List Bool → List ℕ → Type 0
All flags row = (m : ℕ) → Has row m → get_or flags m true ≡ true

none_set : (k n : ℕ) → is_flagged (replicate k false) n ≡ true → ⊥
none_set zero n e = apart (sym e)
none_set (suc k) zero e = apart (sym e)
none_set (suc k) (suc n) e = none_set k n e

long : (k : ℕ) → length (replicate k false) ≡ k
long zero = refl
long (suc k) = ap suc (long k)

-- which of two values stands past the end doesn't count within
pub within_same : (flags : List Bool) (n : ℕ) → n < length flags → get_or flags n true ≡ is_flagged flags n
within_same [] n h = absurd (omega (arith, h))
within_same (b ∷ bs) zero h = refl
within_same (b ∷ bs) (suc n) h = within_same bs n (omega (arith, h))

pub past_ranked : (rows : List (List ℕ)) (n : ℕ) → length rows ≤ n → HasRank rows n
past_ranked rows n l = has_rank (λ m h. absurd (subst (λ (r : List ℕ). Has r m) (get_or_past rows n [] l) h))

module _ (rows : List (List ℕ)) (old new : List Bool) (start : old ≡ replicate (length rows) false) (c : IsClosure All rows old new) where
  old_size : length old ≡ length rows
  old_size = ap length start ∙ long (length rows)

  size : length new ≡ length rows
  size = follows_length All rows c.follows ∙ old_size

  ranked_next : (flags : List Bool) (n : ℕ) → ((m : ℕ) → is_flagged flags m ≡ true → HasRank rows m) → length flags ≡ length old → All flags (row_of rows n) → HasRank rows n
  ranked_next flags n h l k = has_rank (λ m i. elim (within_or_past m (length flags)) [
    | inl b ↦ h m (sym (within_same flags m b) ∙ k m i)
    | inr p ↦ past_ranked rows m (omega (arith, p, l, old_size))
  ])

  ranked : (m : ℕ) → is_flagged new m ≡ true → HasRank rows m
  ranked m e = follows_sound All rows (HasRank rows) ranked_next c.follows (λ k f. absurd (none_set (length rows) k (sym (ap (λ (bs : List Bool). is_flagged bs k) start) ∙ f))) m e

  all_ranked : (n : ℕ) → HasRank rows n → get_or new n true ≡ true
  all_ranked n (has_rank h) = elim (within_or_past n (length new)) [
    | inr p ↦ get_or_past new n true p
    | inl b ↦ elim (either (is_flagged new n)) [
      | inl f ↦ within_same new n b ∙ f
      | inr f ↦ absurd (c.closed n b f (λ m i. all_ranked m (h m i)))
    ]
  ]

  pub ranked_flags : AreFlagsOf (length rows) (HasRank rows) new
  ranked_flags = record { size = size; sound = ranked; complete = λ n l h. sym (within_same new n (omega (arith, l, size))) ∙ all_ranked n h }
