-- Tables by numbers that grow by one entry at a time, and numbers that lead on to others so many times.
use Rattle.std.proofs.Common.{◌≡◌, ◌+◌, ◌-◌, ◌/◌, ◌%◌, ◌<◌, ◌≤◌, ℕ, zero, suc, List, [], ◌∷◌, ◌++◌, length, get_or, Option, None, refl, sym, ap, ◌∙◌, subst, inl, inr, arith, length-append}
use Rattle.std.proofs.lemmas.Bool.{cases_lt}
use Rattle.std.proofs.lemmas.List.{get_or_append_left, get_or_past}
use Rattle.std.proofs.Math.Seq.{get_or-append_seam}
use denote.Ref.{Bor}
use Rattle.go_base.specs.Keys.{item_of}
use Rattle.go_syntax.specs.declared.name.QualifiedName.{QualifiedName}
use Rattle.go_declared.specs.inner.NextAliases.{AreNames, AreSteps, step, walked}

-- ---- one entry more

longer : {A : Type 0} (xs : List A) (x : A) (n : ℕ) → length xs ≡ n → length (xs ++ x ∷ []) ≡ n + 1
longer xs x n e = length-append xs (x ∷ []) ∙ ap (λ k. k + 1) e

-- what is read at each number, where an entry is added that reads as it has to at the next
module _ {A B : Type 0} (read : A → B) (past : ℕ → A) (f : ℕ → B) (xs : List A) (x : A) (n : ℕ) where
  more : length xs ≡ n → ((i : ℕ) → i < n → read (get_or xs i (past i)) ≡ f i) → read x ≡ f n → (i : ℕ) → i < n + 1 → read (get_or (xs ++ x ∷ []) i (past i)) ≡ f i
  more l h e i k = elim (cases_lt i n) [ inl b ↦ before b | inr p ↦ last p ]
    where
      before : i < n → read (get_or (xs ++ x ∷ []) i (past i)) ≡ f i
      before b = ap read (get_or_append_left xs (x ∷ []) (past i) i (omega (arith, b, l))) ∙ h i b

      last : n ≤ i → read (get_or (xs ++ x ∷ []) i (past i)) ≡ f i
      last p =
          let here : i ≡ length xs = omega (arith, p, k, l) in
          let same : n ≡ i = omega (arith, p, k) in
          ap (λ j. read (get_or (xs ++ x ∷ []) j (past i))) here ∙ ap read (get_or-append_seam xs x [] (past i)) ∙ e ∙ ap f same

pub names_more : (f : ℕ → Option QualifiedName) (xs ys : List (Option (Bor QualifiedName))) (x : Option (Bor QualifiedName)) (n : ℕ) → AreNames n f xs → ys ≡ xs ++ x ∷ [] → item_of x ≡ f n → AreNames (n + 1) f ys
names_more f xs ys x n h e g = subst (λ (zs : List (Option (Bor QualifiedName))). AreNames (n + 1) f zs) (sym e) (longer xs x n h.0, more (λ (y : Option (Bor QualifiedName)). item_of y) (λ i. None) f xs x n h.0 h.1 g)

-- ---- so many steps on

-- a number past the end stays
step_past : (xs : List ℕ) (i : ℕ) → length xs ≤ i → step xs i ≡ i
step_past xs i h = get_or_past xs i i h

-- what a table tells of each number below the count it tells of all, where the others stay
pub each_step : (count : ℕ) (f : ℕ → ℕ) (xs : List ℕ) → ((i : ℕ) → count ≤ i → f i ≡ i) → AreSteps count f xs → (i : ℕ) → step xs i ≡ f i
each_step count f xs stay h i = elim (cases_lt i count) [ inl b ↦ h.1 i b | inr p ↦ past p ]
  where
    past : count ≤ i → step xs i ≡ f i
    past p = step_past xs i (let l = h.0 in omega (arith, p, l)) ∙ sym (stay i p)

module _ (xs : List ℕ) where
  pub walked_fixed : (k n : ℕ) → step xs n ≡ n → walked xs k n ≡ n
  unfolding walked
  walked_fixed zero n e = refl
  walked_fixed (suc k) n e = ap (walked xs k) e ∙ walked_fixed k n e

  -- numbers that stay one by one
  pub stays_more : (n : ℕ) → ((i : ℕ) → i < n → step xs i ≡ i) → step xs n ≡ n → (i : ℕ) → i < n + 1 → step xs i ≡ i
  stays_more n h e i k = elim (cases_lt i n) [ inl b ↦ h i b | inr p ↦ (let same : n ≡ i = omega (arith, p, k) in subst (λ (j : ℕ). step xs j ≡ j) same e) ]

  pub stays_whole : (n : ℕ) → length xs ≤ n → ((i : ℕ) → i < n → step xs i ≡ i) → (i : ℕ) → step xs i ≡ i
  stays_whole n l h i = elim (cases_lt i n) [ inl b ↦ h i b | inr p ↦ step_past xs i (omega (arith, p, l)) ]

  -- where each number stays, so many steps stay too
  pub stayed : (times : ℕ) (ys : List ℕ) → ((i : ℕ) → step xs i ≡ i) → AreSteps (length xs) (λ i. i) ys → AreSteps (length xs) (walked xs times) ys
  stayed times ys stay h = (h.0, λ i b. h.1 i b ∙ sym (walked_fixed times i (stay i)))

  pub walked_past : (k i : ℕ) → length xs ≤ i → walked xs k i ≡ i
  walked_past k i h = walked_fixed k i (step_past xs i h)

  walked_sum : (a b c n : ℕ) → a + b ≡ c → walked xs c n ≡ walked xs b (walked xs a n)
  unfolding walked
  walked_sum zero b c n e = let same : c ≡ b = omega (arith, e) in ap (λ (k : ℕ). walked xs k n) same
  walked_sum (suc a) b zero n e = absurd (omega (arith, e))
  walked_sum (suc a) b (suc c) n e = walked_sum a b c (step xs n) (omega (arith, e))

  pub walked_none : (i : ℕ) → walked xs 0 i ≡ i
  unfolding walked
  walked_none i = refl

  pub one_on : (k i : ℕ) → walked xs (suc k) i ≡ walked xs k (step xs i)
  unfolding walked
  one_on k i = refl

  pub not_on : (times : ℕ) (ys : List ℕ) → times ≡ 0 → AreSteps (length xs) (λ i. i) ys → AreSteps (length xs) (walked xs times) ys
  not_on times ys e h = (h.0, λ i b. h.1 i b ∙ sym (walked_none i) ∙ ap (λ (k : ℕ). walked xs k i) (sym e))

  module _ (times : ℕ) (half first second twice : List ℕ) (are_half : AreSteps (length xs) (walked xs (times / 2)) half) (is_first : first ≡ half) (is_second : second ≡ half)
      (are_twice : AreSteps (length first) (λ i. step second (step first i)) twice) where
    by_half : (i : ℕ) → step half i ≡ walked xs (times / 2) i
    by_half = each_step (length xs) (walked xs (times / 2)) half (λ i p. walked_past (times / 2) i p) are_half

    both_half : AreSteps (length half) (λ i. step half (step half i)) twice
    both_half =
        subst (λ (zs : List ℕ). AreSteps (length half) (λ i. step zs (step half i)) twice) is_second
        (subst (λ (zs : List ℕ). AreSteps (length zs) (λ i. step second (step zs i)) twice) is_first are_twice)

    by_twice : (k : ℕ) → times / 2 + times / 2 ≡ k → (i : ℕ) → step twice i ≡ walked xs k i
    by_twice k e i =
        each_step (length half) (λ j. step half (step half j)) twice (λ j p. ap (step half) (step_past half j p) ∙ step_past half j p) both_half i
        ∙ by_half (step half i) ∙ ap (walked xs (times / 2)) (by_half i) ∙ sym (walked_sum (times / 2) (times / 2) k i e)

    pub even_on : times % 2 ≡ 0 → AreSteps (length xs) (walked xs times) twice
    even_on e = (both_half.0 ∙ are_half.0, λ i b. by_twice times (omega (arith, e)) i)

    pub odd_on : (times % 2 ≡ 0 → ⊥) → (third ys : List ℕ) → third ≡ twice → AreSteps (length xs) (λ i. step third (step xs i)) ys → AreSteps (length xs) (walked xs times) ys
    odd_on e third ys is h = (h.0, λ i b. h.1 i b ∙ ap (λ (zs : List ℕ). step zs (step xs i)) is ∙ by_twice (times - 1) before (step xs i) ∙ sym (one_on (times - 1) i) ∙ ap (λ (k : ℕ). walked xs k i) whole)
      where
        before : times / 2 + times / 2 ≡ times - 1
        before = omega (arith, e)

        whole : suc (times - 1) ≡ times
        whole = omega (arith, e)
