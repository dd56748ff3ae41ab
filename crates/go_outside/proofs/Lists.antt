-- Items of lists, and places in them.
use mathlib.Core.Bool.{true≢false}
use Rattle.std.proofs.Common.{◌≡◌, ◌≢◌, ℕ, zero, suc, ◌<◌, ◌≤◌, ◌⊎◌, inl, inr, true, false, nat_eq, List, [], ◌∷◌, ◌++◌, length, get_or, map, refl, sym, ap, subst, arith}
use Rattle.std.specs.List.Sorted.{IsPermutation}
use Rattle.std.proofs.lemmas.Bool.Decides.{Decides-eqb}
use Rattle.std.proofs.lemmas.List.Sorted.{Contains-permutation}
use Rattle.go_base.specs.Lists.{Has, Once}

-- two places stand one below the other, or not
pub by_place : (j at : ℕ) → (j < at) ⊎ (at ≤ j)
by_place zero zero = inr (omega arith)
by_place zero (suc at) = inl (omega arith)
by_place (suc j) zero = inr (omega arith)
by_place (suc j) (suc at) = elim (by_place j at) [ inl h ↦ inl (omega arith) | inr h ↦ inr (omega arith) ]

module _ {A : Type 0} where
  pub has_left : (xs ys : List A) (n : A) → Has xs n → Has (xs ++ ys) n
  has_left [] ys n h = absurd h
  has_left (x ∷ xs) ys n (inl e) = inl e
  has_left (x ∷ xs) ys n (inr h) = inr (has_left xs ys n h)

  pub has_last : (xs : List A) (n : A) → Has (xs ++ n ∷ []) n
  has_last [] n = inl refl
  has_last (x ∷ xs) n = inr (has_last xs n)

  pub has_back : (xs : List A) (y n : A) → Has (xs ++ y ∷ []) n → Has xs n ⊎ (y ≡ n)
  has_back [] y n (inl e) = inr e
  has_back [] y n (inr h) = absurd h
  has_back (x ∷ xs) y n (inl e) = inl (inl e)
  has_back (x ∷ xs) y n (inr h) = elim (has_back xs y n h) [ inl k ↦ inl (inr k) | inr e ↦ inr e ]

  pub once_last : (xs : List A) (n : A) → Once xs → (Has xs n → ⊥) → Once (xs ++ n ∷ [])
  once_last [] n h k = ((λ a. a), tt)
  once_last (x ∷ xs) n h k = ((λ a. elim (has_back xs n x a) [ inl b ↦ h.0 b | inr e ↦ k (inl (sym e)) ]), once_last xs n h.1 (λ a. k (inr a)))

  -- an item stands at some place, and what stands at a place is an item
  pub has_place : (xs : List A) (x : A) → Has xs x → (k : ℕ) × (k < length xs) × (get_or xs k x ≡ x)
  has_place [] x h = absurd h
  has_place (y ∷ ys) x (inl e) = (0, omega arith, e)
  has_place (y ∷ ys) x (inr h) = let r = has_place ys x h in (suc r.0, omega arith, r.2)

  pub place_has : (xs : List A) (k : ℕ) (d : A) → k < length xs → Has xs (get_or xs k d)
  place_has [] k d h = absurd (omega arith)
  place_has (x ∷ xs) zero d h = inl refl
  place_has (x ∷ xs) (suc k) d h = inr (place_has xs k d (omega arith))

  -- the same items in another order
  pub has_permuted : (xs ys : List A) (x : A) → IsPermutation xs ys → Has xs x → Has ys x
  has_permuted xs ys x p h =
      let k = Contains-permutation xs ys x p (has_place xs x h) in
      subst (Has ys) k.2 (place_has ys k.0 x k.1)

pub has_map : {A B : Type 0} (f : A → B) (xs : List A) (x : A) → Has xs x → Has (map f xs) (f x)
has_map f [] x h = absurd h
has_map f (y ∷ ys) x (inl e) = inl (ap f e)
has_map f (y ∷ ys) x (inr h) = inr (has_map f ys x h)

pub empty_of : {A : Type 0} (xs : List A) → nat_eq (length xs) 0 ≡ true → xs ≡ []
empty_of [] e = refl
empty_of (x ∷ xs) e = absurd (no (length xs) ((Decides-eqb (suc (length xs)) 0).0 e)) where
  no : (n : ℕ) → suc n ≡ 0 → ⊥
  no n e = omega arith

pub some_of : {A : Type 0} (xs : List A) → nat_eq (length xs) 0 ≡ false → xs ≢ []
some_of [] e = absurd (true≢false e)
some_of (x ∷ xs) e = λ k. cc
