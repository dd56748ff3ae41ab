-- The sound declarations of a package have one typing together.
use Rattle.std.proofs.Common.{◌≡◌, ℕ, zero, suc, ◌<◌, Bool, true, false, ◌||◌, length, None, refl, sym, ◌∙◌, subst, inl, inr, arith}
use Rattle.std.proofs.lemmas.Bool.{or_left, or_right}
use Rattle.go_typings.specs.Assignments.{joined}
use Rattle.go_typings.specs.Declarations.{declarations}
use Rattle.go_typings.specs.PackageEnvironments.{Entries}
use Rattle.go_typings.specs.Sources.{PackageSource, Setting}
use Rattle.go_typings.specs.Typings.{IsClosed, IsSound, Typing}
use Rattle.go_typings.proofs.Cells.{either}
use Rattle.go_typings.proofs.JoinedEntries.{is_last}
use Rattle.go_soundness.specs.Apart.{IsApart}
use Rattle.go_soundness.proofs.JoinedTypings.{closed as closed_both, join}
use Rattle.go_exposed.proofs.OneKeptSet.{typed_within}

no_truth_of : {A : Type 0} → false ≡ true → A
no_truth_of e = absurd (cc)

module _ (s : Setting) (u : PackageSource) (apart : IsApart s u) (S : ℕ → Bool) (sound : (n : ℕ) → S n ≡ true → IsSound s u n) (rest : (n : ℕ) → S n ≡ false → IsSound s u n → ⊥) where
  sound_in : (n : ℕ) → IsSound s u n → S n ≡ true
  sound_in n h = elim (either (S n)) [ inl i ↦ i | inr e ↦ absurd (rest n e h) ]

  also_sound : (n : ℕ) (x : IsSound s u n) (m : ℕ) → x.within m ≡ true → IsSound s u m
  also_sound n x m i = record { within = x.within; entries = x.entries; holds = i; closed = x.closed; typing = x.typing }

  pub sound_closed : IsClosed s u S
  sound_closed m n i k = let x = sound m i in sound_in n (also_sound m x n (x.closed m n x.holds k))

  -- a closed set with a typing that has all of these up to a number
  record UpTo (k : ℕ) : Type 0 where
    within : ℕ → Bool
    entries : Entries
    holds : (n : ℕ) → n < k → S n ≡ true → within n ≡ true
    closed : IsClosed s u within
    typing : Typing s u within entries

  nothing : UpTo 0
  nothing = record {
    within = λ n. false;
    entries = λ n. None;
    holds = λ n l i. absurd (omega (arith, l));
    closed = λ m n i k. no_truth_of i;
    typing = record {
      had = record { only = λ n e. refl; order = λ n. 0; below = λ n i. no_truth_of i };
      asks = λ n i. no_truth_of i;
      rank = λ n. 0;
      falls = λ m n i k. no_truth_of i;
      lengths = λ m n i k r. no_truth_of i;
    };
  }

  with_sound : (k : ℕ) → UpTo k → IsSound s u k → UpTo (suc k)
  with_sound k h x = record {
    within = λ n. h.within n || x.within n;
    entries = joined h.entries x.entries;
    holds = λ n l i. elim (is_last n k l) [ inl e ↦ or_right (h.within n) (x.within n) (subst (λ (j : ℕ). x.within j ≡ true) (sym e) x.holds) | inr j ↦ or_left (h.within n) (x.within n) (h.holds n j i) ];
    closed = closed_both s u apart h.within x.within h.entries x.entries h.typing x.typing h.closed x.closed;
    typing = join s u apart h.within x.within h.entries x.entries h.typing x.typing h.closed x.closed;
  }

  without : (k : ℕ) → UpTo k → S k ≡ false → UpTo (suc k)
  without k h f = record {
    within = h.within;
    entries = h.entries;
    holds = λ n l i. elim (is_last n k l) [ inl e ↦ no_truth_of (sym (subst (λ (j : ℕ). S j ≡ false) (sym e) f) ∙ i) | inr j ↦ h.holds n j i ];
    closed = h.closed;
    typing = h.typing;
  }

  all_up_to : (k : ℕ) → UpTo k
  all_up_to zero = nothing
  all_up_to (suc k) = let h = all_up_to k in elim (either (S k)) [ inl i ↦ with_sound k h (sound k i) | inr f ↦ without k h f ]

  -- these have a typing together
  pub sound_typing : (a : Entries) × Typing s u S a
  sound_typing = let k = all_up_to (length (declarations u)) in (k.entries, subst (λ (W : ℕ → Bool). Typing s u W k.entries) (λ i n. same k n i) k.typing)
    where
      there : (k : UpTo (length (declarations u))) (n : ℕ) → S n ≡ true → k.within n ≡ true
      there k n i = let x = sound n i in k.holds n (typed_within s u x.within x.entries x.typing n x.holds) i

      back : (k : UpTo (length (declarations u))) (n : ℕ) → k.within n ≡ true → S n ≡ true
      back k n i = sound_in n (record { within = k.within; entries = k.entries; holds = i; closed = k.closed; typing = k.typing })

      same : (k : UpTo (length (declarations u))) (n : ℕ) → k.within n ≡ S n
      same k n = elim (either (S n)) [
        | inl i ↦ there k n i ∙ sym i
        | inr e ↦ elim (either (k.within n)) [ inl j ↦ j ∙ sym (back k n j) | inr f ↦ f ∙ sym e ]
      ]
