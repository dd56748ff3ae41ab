-- Rows that are claimed once each, and have results, with those that have none are at most all.
use Rattle.std.proofs.Common.{◌≡◌, ℕ, zero, suc, ◌+◌, ◌<◌, ◌≤◌, List, [], ◌∷◌, ◌++◌, length, Option, Some, None, slice_get, refl, ap, ◌⊎◌, inl, inr, arith}
use Rattle.go_base.specs.Lists.{Has, Once}
use Rattle.work_sharing.specs.Results.{empty_rows}

-- the numbers past the first row, one less each
down : List ℕ → List ℕ
down [] = []
down (zero ∷ xs) = down xs
down (suc k ∷ xs) = k ∷ down xs

up_has : (xs : List ℕ) (k : ℕ) → Has (down xs) k → Has xs (suc k)
unfolding down
up_has [] k h = absurd h
up_has (zero ∷ xs) k h = inr (up_has xs k h)
up_has (suc j ∷ xs) k (inl e) = inl (ap suc e)
up_has (suc j ∷ xs) k (inr h) = inr (up_has xs k h)

down_once : (xs : List ℕ) → Once xs → Once (down xs)
unfolding down
down_once [] o = tt
down_once (zero ∷ xs) o = down_once xs o.1
down_once (suc k ∷ xs) o = ((λ h. o.0 (up_has xs k h)), down_once xs o.1)

zero_or : (xs : List ℕ) → Has xs 0 ⊎ (Has xs 0 → ⊥)
zero_or [] = inr (λ h. h)
zero_or (zero ∷ xs) = inl (inl refl)
zero_or (suc k ∷ xs) = elim (zero_or xs) [ inl h ↦ inl (inr h) | inr n ↦ inr (λ h. elim h [ inl e ↦ absurd (omega (arith, e)) | inr h ↦ n h ]) ]

no_zero : (xs : List ℕ) → (Has xs 0 → ⊥) → length (down xs) ≡ length xs
unfolding down
no_zero [] n = refl
no_zero (zero ∷ xs) n = absurd (n (inl refl))
no_zero (suc k ∷ xs) n = ap suc (no_zero xs (λ h. n (inr h)))

one_zero : (xs : List ℕ) → Once xs → length xs ≤ length (down xs) + 1
unfolding down
one_zero [] o = omega arith
one_zero (zero ∷ xs) o = omega (arith, no_zero xs o.0)
one_zero (suc k ∷ xs) o = omega (arith, one_zero xs o.1)

none_below : (xs : List ℕ) → ((j : ℕ) → Has xs j → j < 0) → length xs ≡ 0
none_below [] h = refl
none_below (x ∷ xs) h = absurd (omega (arith, h x (inl refl)))

-- rows that are claimed once each are at most all
pub few : (n : ℕ) (claims : List ℕ) → Once claims → ((j : ℕ) → Has claims j → j < n) → length claims ≤ n
few zero claims o below = omega (arith, none_below claims below)
few (suc n) claims o below = let rest = few n (down claims) (down_once claims o) (λ j h. let b = below (suc j) (up_has claims j h) in omega (arith, b)) in omega (arith, rest, one_zero claims o)

module _ {T : Type 0} where
  pub empty_both : (xs ys : List (Option T)) → empty_rows (xs ++ ys) ≡ empty_rows xs + empty_rows ys
  empty_both [] ys = omega arith
  empty_both (None ∷ xs) ys = omega (arith, empty_both xs ys)
  empty_both (Some x ∷ xs) ys = omega (arith, empty_both xs ys)

  -- a row in the midst counts, and so do those before it
  pub empty_front : (front rest rows : List (Option T)) (x : Option T) → front ++ x ∷ rest ≡ rows → empty_rows front + empty_rows (x ∷ []) ≤ empty_rows rows
  empty_front front rest rows x e = omega (arith, ap empty_rows e, empty_both front (x ∷ rest), empty_both (x ∷ []) rest)

  more_empty : (x : Option T) (xs : List (Option T)) → empty_rows (x ∷ xs) ≤ empty_rows xs + 1
  more_empty None xs = omega arith
  more_empty (Some x) xs = omega arith

  first_full : (x : Option T) (xs : List (Option T)) → (Some x ≡ Some None → ⊥) → empty_rows (x ∷ xs) ≡ empty_rows xs
  first_full None xs n = absurd (n refl)
  first_full (Some x) xs n = refl

  pub at_most_all : (xs : List (Option T)) (claims : List ℕ) → Once claims → ((j : ℕ) → Has claims j → j < length xs) → ((j : ℕ) → Has claims j → slice_get xs j ≡ Some None → ⊥) → length claims + empty_rows xs ≤ length xs
  at_most_all [] claims o below full = omega (arith, none_below claims below)
  at_most_all (x ∷ xs) claims o below full =
      let rest = at_most_all xs (down claims) (down_once claims o) (λ j h. let b = below (suc j) (up_has claims j h) in omega (arith, b)) (λ j h e. full (suc j) (up_has claims j h) e) in
      elim (zero_or claims) [
        | inl h ↦ omega (arith, rest, one_zero claims o, first_full x xs (full 0 h))
        | inr n ↦ omega (arith, rest, no_zero claims n, more_empty x xs)
      ]
