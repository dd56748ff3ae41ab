-- Numbers of a list that are flagged one by one.
use Rattle.std.proofs.Common.{◌≡◌, ℕ, zero, suc, ◌+◌, ◌<◌, Bool, true, false, List, length, get_or, set, take, replicate, refl, sym, ap, ◌∙◌, subst, ◌⊎◌, inl, inr}
use Rattle.go_base.specs.Lists.{Has}
use Rattle.go_graphs.specs.Flags.{AreFlagsOf, is_flagged}
use Rattle.go_graphs.proofs.Flagging.{apart, set_flag, set_keeps, set_or_was}
use Rattle.go_graphs.proofs.Members.{has_before, has_more, has_next}

module _ (old flags : List Bool) (numbers : List ℕ) (i : ℕ) (l : i < length numbers) (w : get_or numbers i 0 < length flags) where
  abbrev new : List Bool
  new = set flags (get_or numbers i 0) true

  pub flagged_sound : ((n : ℕ) → is_flagged flags n ≡ true → (is_flagged old n ≡ true) ⊎ Has (take i numbers) n) → (n : ℕ) → is_flagged new n ≡ true → (is_flagged old n ≡ true) ⊎ Has (take (i + 1) numbers) n
  flagged_sound h n e = elim (set_or_was flags (get_or numbers i 0) n e) [
    | inl k ↦ elim (h n k) [ inl p ↦ inl p | inr q ↦ inr (has_before numbers i n q) ]
    | inr q ↦ inr (subst (Has (take (i + 1) numbers)) (sym q) (has_next numbers i l))
  ]

  pub flagged_kept : ((n : ℕ) → is_flagged old n ≡ true → is_flagged flags n ≡ true) → (n : ℕ) → is_flagged old n ≡ true → is_flagged new n ≡ true
  flagged_kept h n e = set_keeps flags (get_or numbers i 0) n w (h n e)

  pub flagged_complete : ((n : ℕ) → Has (take i numbers) n → is_flagged flags n ≡ true) → (n : ℕ) → Has (take (i + 1) numbers) n → is_flagged new n ≡ true
  flagged_complete h n k = elim (has_more numbers i n l k) [
    | inl p ↦ set_keeps flags (get_or numbers i 0) n w (h n p)
    | inr e ↦ subst (λ (z : ℕ). is_flagged new z ≡ true) e (set_flag flags (get_or numbers i 0) w)
  ]

pub replicate_size : (k : ℕ) → length (replicate k false) ≡ k
replicate_size zero = refl
replicate_size (suc k) = ap suc (replicate_size k)

none_set : (k n : ℕ) → is_flagged (replicate k false) n ≡ true → ⊥
none_set zero n e = apart (sym e)
none_set (suc k) zero e = apart (sym e)
none_set (suc k) (suc n) e = none_set k n e

-- flags of a list of numbers, where none was set before
pub flags_start : (count : ℕ) (old after : List Bool) (numbers : List ℕ) → old ≡ replicate count false → length after ≡ length old → ((n : ℕ) → is_flagged after n ≡ true → (is_flagged old n ≡ true) ⊎ Has numbers n) → ((n : ℕ) → Has numbers n → is_flagged after n ≡ true) → AreFlagsOf count (Has numbers) after
flags_start count old after numbers e l s c = record {
  size = l ∙ ap length e ∙ replicate_size count;
  sound = λ n f. elim (s n f) [ inl g ↦ absurd (none_set count n (sym (ap (λ (bs : List Bool). is_flagged bs n) e) ∙ g)) | inr h ↦ h ];
  complete = λ n l h. c n h;
}
