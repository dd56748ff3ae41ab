-- How many items pass a test.
use Rattle.std.proofs.Common.{◌≡◌, ◌≢◌, ℕ, zero, suc, ◌+◌, ◌<◌, ◌≤◌, Bool, true, false, cond, List, [], ◌∷◌, length, get_or, count_by, refl, ap, ◌∙◌, arith}
use Rattle.std.proofs.lemmas.List.Sums.{sum_by-cons}

module _ {A : Type 0} (test : A → Bool) where
  count-cons : (x : A) (xs : List A) (b : Bool) → test x ≡ b → count_by test (x ∷ xs) ≡ cond b 1 0 + count_by test xs
  count-cons x xs b e = sum_by-cons (λ y. cond (test y) 1 0) x xs ∙ ap (λ b. cond b 1 0 + count_by test xs) e

  -- no item passes
  pub count_none : (xs : List A) → ((k : ℕ) (d : A) → k < length xs → test (get_or xs k d) ≡ false) → count_by test xs ≡ 0
  count_none [] never = refl
  count_none (x ∷ xs) never =
      let e = count-cons x xs false (never 0 x (omega arith)) in
      let r = count_none xs (λ k d h. never (suc k) d (omega arith)) in
      omega (arith, e, r)

  small : (b : Bool) (n m : ℕ) → n ≡ cond b 1 0 + m → m ≡ 0 → n ≤ 1
  small true n m e h = omega arith
  small false n m e h = omega arith

  -- at most the item at one place passes
  pub count_one : (xs : List A) (at : ℕ) → ((k : ℕ) (d : A) → k < length xs → k ≢ at → test (get_or xs k d) ≡ false) → count_by test xs ≤ 1
  count_one [] at never = omega arith
  count_one (x ∷ xs) zero never = small (test x) _ _ (count-cons x xs (test x) refl) (count_none xs (λ k d h. never (suc k) d (omega arith) (λ e. absurd (omega arith))))
  count_one (x ∷ xs) (suc at) never =
      let e = count-cons x xs false (never 0 x (omega arith) (λ e. absurd (omega arith))) in
      let r = count_one xs at (λ k d h n. never (suc k) d (omega arith) (λ e. n (omega arith))) in
      omega (arith, e, r)

  more : (b : Bool) (n m t : ℕ) → n ≡ cond b 1 0 + m → t ≤ m → t ≤ n
  more true n m t e h = omega arith
  more false n m t e h = omega arith

  count_some : (xs : List A) (i : ℕ) (d : A) → i < length xs → test (get_or xs i d) ≡ true → 1 ≤ count_by test xs
  count_some [] i d h e = absurd (omega arith)
  count_some (x ∷ xs) zero d h e = let s = count-cons x xs true e in omega (arith, s)
  count_some (x ∷ xs) (suc i) d h e = more (test x) _ _ 1 (count-cons x xs (test x) refl) (count_some xs i d (omega arith) e)

  -- the items at two places pass
  pub count_two : (xs : List A) (i j : ℕ) (d : A) → i < j → j < length xs → test (get_or xs i d) ≡ true → test (get_or xs j d) ≡ true → 2 ≤ count_by test xs
  count_two [] i j d l h a b = absurd (omega arith)
  count_two (x ∷ xs) i zero d l h a b = absurd (omega arith)
  count_two (x ∷ xs) zero (suc j) d l h a b =
      let s = count-cons x xs true a in
      let r = count_some xs j d (omega arith) b in
      omega (arith, s, r)
  count_two (x ∷ xs) (suc i) (suc j) d l h a b = more (test x) _ _ 2 (count-cons x xs (test x) refl) (count_two xs i j d (omega arith) (omega arith) a b)
