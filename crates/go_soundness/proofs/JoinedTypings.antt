-- Typings of two closed sets join, so a package of which each declaration is sound has a typing.
use Rattle.std.proofs.Common.{◌≡◌, ℕ, zero, suc, ◌+◌, ◌<◌, ◌≤◌, Bool, true, false, ◌||◌, length, None, refl, sym, ◌∙◌, subst, inl, inr, arith}
use Rattle.std.specs.Prelude.{if◌then◌else◌}
use Rattle.std.proofs.lemmas.Bool.Decides.{nat_tests}
use Rattle.std.proofs.lemmas.Option.{slice_get_within}
use Rattle.go_typings.specs.Assignments.{Below, Within, all_of, joined}
use Rattle.go_typings.specs.Declarations.{declarations}
use Rattle.go_typings.specs.PackageEnvironments.{Entries}
use Rattle.go_typings.specs.Sources.{PackageSource, Setting}
use Rattle.go_typings.specs.Typings.{IsClosed as IsClosedSet, IsSound, IsTyping, Typing, given}
use Rattle.go_typings.proofs.Agree.{agree, held}
use Rattle.go_typings.proofs.Cells.{either, if_false, if_true}
use Rattle.go_typings.proofs.JoinedEntries.{entries_join, is_last, or_cases, top, top_at}
use Rattle.go_typings.proofs.OneTyping.{grows, one}
use Rattle.go_soundness.specs.Apart.{IsApart}
use Rattle.go_soundness.specs.Ranks.{ComesAfter}
use Rattle.go_soundness.proofs.OverTyping.{asks_over, falls_over, straight_over, strong_kept}

or_left : (b c : Bool) → b ≡ true → (b || c) ≡ true
or_left true c e = refl
or_left false c e = let g : false ≡ true = e in absurd (cc)

or_right : (b c : Bool) → c ≡ true → (b || c) ≡ true
or_right true c e = refl
or_right false c e = e

module _ (s : Setting) (u : PackageSource) (apart : IsApart s u) where
  module _ (S T : ℕ → Bool) (a b : Entries) (A : Typing s u S a) (B : Typing s u T b) (first : IsClosedSet s u S) (second : IsClosedSet s u T) where
    abbrev U : ℕ → Bool
    U n = S n || T n

    abbrev c : Entries
    c = joined a b

    had : Below (given s u) (declarations u) U c
    had = entries_join s u S T a b A.had B.had

    from_first : Within a c
    from_first n x e =
        let i = held (given s u) (grows s u) (one s u) (declarations u) S a A.had n x e in
        sym (agree (given s u) (grows s u) (one s u) (declarations u) S a A.had U c had n i (or_left (S n) (T n) i)) ∙ e

    from_second : Within b c
    from_second n x e =
        let i = held (given s u) (grows s u) (one s u) (declarations u) T b B.had n x e in
        sym (agree (given s u) (grows s u) (one s u) (declarations u) T b B.had U c had n i (or_right (S n) (T n) i)) ∙ e

    pub closed : IsClosedSet s u U
    closed m n i k = elim (or_cases (S m) (T m) i) [ inl j ↦ or_left (S n) (T n) (first m n j k) | inr j ↦ or_right (S n) (T n) (second m n j.1 k) ]

    abbrev high : ℕ
    high = suc (top A.rank (length (declarations u)))

    -- the ranks of the first set are below those of the rest of the second
    abbrev rank : ℕ → ℕ
    rank n = if S n then A.rank n else high + B.rank n

    old : (n : ℕ) → S n ≡ true → rank n ≡ A.rank n
    old n i = if_true (S n) (A.rank n) (high + B.rank n) i

    new : (n : ℕ) → S n ≡ false → rank n ≡ high + B.rank n
    new n i = if_false (S n) (A.rank n) (high + B.rank n) i

    low : (n : ℕ) → S n ≡ true → A.rank n < high
    low n i = let k = A.had.below n i in let h = top_at A.rank (length (declarations u)) n (slice_get_within (declarations u) n k.0 k.1) in omega (arith, h)

    falls : (m n : ℕ) → U m ≡ true → ComesAfter s u c m n → rank n < rank m
    falls m n i k = elim (or_cases (S m) (T m) i) [
      | inl j ↦ (let f = falls_over s u apart S first a A c from_first m n j k in let p = old m j in let q = old n (strong_kept s u apart S first a A c from_first m n j k) in omega (arith, f, p, q))
      | inr j ↦ (let f = falls_over s u apart T second b B c from_second m n j.1 k in let p = new m j.0 in elim (either (S n)) [
        | inl g ↦ (let q = old n g in let l = low n g in omega (arith, p, q, l))
        | inr g ↦ (let q = new n g in omega (arith, f, p, q))
      ])
    ]

    pub join : Typing s u U c
    join = record {
      had = had;
      asks = λ n i. elim (or_cases (S n) (T n) i) [ inl j ↦ asks_over s u apart S first a A c from_first n j | inr j ↦ asks_over s u apart T second b B c from_second n j.1 ];
      rank = rank;
      falls = falls;
      lengths = λ m n i k r. elim (or_cases (S m) (T m) i) [ inl j ↦ straight_over s u apart S first a A c from_first m n j k r | inr j ↦ straight_over s u apart T second b B c from_second m n j.1 k r ];
    }

  -- a closed set with a typing that has all declarations up to a number
  record UpTo (k : ℕ) : Type 0 where
    within : ℕ → Bool
    entries : Entries
    holds : (n : ℕ) → n < k → within n ≡ true
    closed : IsClosedSet s u within
    typing : Typing s u within entries

  nothing : UpTo 0
  nothing = record {
    within = λ n. false;
    entries = λ n. None;
    holds = λ n l. absurd (omega (arith, l));
    closed = λ m n i k. no_truth_of i;
    typing = record {
      had = record { only = λ n e. refl; order = λ n. 0; below = λ n i. no_truth_of i };
      asks = λ n i. no_truth_of i;
      rank = λ n. 0;
      falls = λ m n i k. no_truth_of i;
      lengths = λ m n i k r. no_truth_of i;
    };
  }
    where
      no_truth_of : {A : Type 0} → false ≡ true → A
      no_truth_of e = absurd (cc)

  more : (k : ℕ) → UpTo k → IsSound s u k → UpTo (suc k)
  more k h x = record {
    within = λ n. h.within n || x.within n;
    entries = joined h.entries x.entries;
    holds = λ n l. elim (is_last n k l) [ inl e ↦ or_right (h.within n) (x.within n) (subst (λ (j : ℕ). x.within j ≡ true) (sym e) x.holds) | inr j ↦ or_left (h.within n) (x.within n) (h.holds n j) ];
    closed = closed h.within x.within h.entries x.entries h.typing x.typing h.closed x.closed;
    typing = join h.within x.within h.entries x.entries h.typing x.typing h.closed x.closed;
  }

  all_up_to : (k : ℕ) → ((n : ℕ) → n < k → IsSound s u n) → UpTo k
  all_up_to zero h = nothing
  all_up_to (suc k) h = more k (all_up_to k (λ n l. h n (omega (arith, l)))) (h k (omega arith))

  -- where each declaration is sound, the package has a typing
  pub sound_typed : ((n : ℕ) → n < length (declarations u) → IsSound s u n) → (a : Entries) × IsTyping s u a
  sound_typed h = let k = all_up_to (length (declarations u)) h in (
    k.entries,
    record {
      had = record {
        only = λ n e. empty k n e;
        order = k.typing.had.order;
        below = λ n i. k.typing.had.below n (k.holds n (declared_within n i));
      };
      asks = λ n i. k.typing.asks n (k.holds n (declared_within n i));
      rank = k.typing.rank;
      falls = λ m n i c. k.typing.falls m n (k.holds m (declared_within m i)) c;
      lengths = λ m n i c r. k.typing.lengths m n (k.holds m (declared_within m i)) c r;
    },
  )
    where
      declared_within : (n : ℕ) → all_of (declarations u) n ≡ true → n < length (declarations u)
      declared_within n i = grind (arith, nat_tests, i)

      past : (k : UpTo (length (declarations u))) (n : ℕ) → all_of (declarations u) n ≡ false → k.within n ≡ true → ⊥
      past k n e i = let g = k.typing.had.below n i in let l = slice_get_within (declarations u) n g.0 g.1 in let h : length (declarations u) ≤ n = grind (arith, nat_tests, e) in absurd (omega (arith, l, h))

      empty : (k : UpTo (length (declarations u))) (n : ℕ) → all_of (declarations u) n ≡ false → k.entries n ≡ None
      empty k n e = elim (either (k.within n)) [ inl i ↦ absurd (past k n e i) | inr i ↦ k.typing.had.only n i ]
