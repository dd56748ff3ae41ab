-- Where the heads of two texts differ, they decide the order.
use Rattle.std.proofs.Common.{◌≡◌, refl, sym, ap, ◌∙◌, ℕ, zero, suc, ◌<◌, ◌≤◌, List, [], ◌∷◌, length, take, get_or, Ordering, Less, Equal, Greater, nat_cmp, not-suc-le-zero, le_of_suc-le-suc, subst, arith, w64}
use Rattle.std.specs.Int.{from_be_bytes}
use Rattle.std.specs.Ordering.{ordering_then, ordering_reverse}
use Rattle.std.specs.Cmp.{nat_cmp_is, nat_cmp_total}
use Rattle.std.specs.Cmp.Lexicographic.{slice_cmp, nat_list_cmp_total}
use Rattle.go_base.proofs.Orders.{by_words}
use Rattle.go_declared.specs.inner.Heads.{IsHead}

-- the number hangs on the first eight items alone
pub same_number : (xs ys : List ℕ) → ((i : ℕ) → i < 8 → get_or xs i 0 ≡ get_or ys i 0) → from_be_bytes w64 xs ≡ from_be_bytes w64 ys
same_number xs ys h = omega (arith, h 0 (omega arith), h 1 (omega arith), h 2 (omega arith), h 3 (omega arith), h 4 (omega arith), h 5 (omega arith), h 6 (omega arith), h 7 (omega arith))

-- lists that have the same first eight items have the same head
pub same_head : (xs ys : List ℕ) (n : ℕ) → ((i : ℕ) → i < 8 → get_or xs i 0 ≡ get_or ys i 0) → IsHead xs n → IsHead ys n
same_head xs ys n h p = (p.0 ∙ same_number xs ys h, λ i lt. subst (λ m. m < 256) (h i lt) (p.1 i lt))

pub take_at : (k i : ℕ) (xs : List ℕ) → i < k → get_or (take k xs) i 0 ≡ get_or xs i 0
take_at zero i xs h = absurd (not-suc-le-zero h)
take_at (suc k) i [] h = refl
take_at (suc k) zero (x ∷ xs) h = refl
take_at (suc k) (suc i) (x ∷ xs) h = take_at k i xs (le_of_suc-le-suc h)

-- the first so many items, with zeros after a shorter list
abbrev front : ℕ → List ℕ → List ℕ
front zero xs = []
front (suc k) [] = 0 ∷ front k []
front (suc k) (x ∷ xs) = x ∷ front k xs

long_front : (k : ℕ) (xs : List ℕ) → length (front k xs) ≡ k
long_front zero xs = refl
long_front (suc k) [] = ap suc (long_front k [])
long_front (suc k) (x ∷ xs) = ap suc (long_front k xs)

front_at : (k i : ℕ) (xs : List ℕ) → i < k → get_or (front k xs) i 0 ≡ get_or xs i 0
front_at zero i xs h = absurd (not-suc-le-zero h)
front_at (suc k) zero [] h = refl
front_at (suc k) (suc i) [] h = front_at k i [] (le_of_suc-le-suc h)
front_at (suc k) zero (x ∷ xs) h = refl
front_at (suc k) (suc i) (x ∷ xs) h = front_at k i xs (le_of_suc-le-suc h)

front_past : (k i : ℕ) (xs : List ℕ) → k ≤ i → get_or (front k xs) i 0 ≡ 0
front_past zero i xs h = refl
front_past (suc k) zero xs h = absurd (not-suc-le-zero h)
front_past (suc k) (suc i) [] h = front_past k i [] (le_of_suc-le-suc h)
front_past (suc k) (suc i) (x ∷ xs) h = front_past k i xs (le_of_suc-le-suc h)

front_small : (xs : List ℕ) → ((i : ℕ) → i < 8 → get_or xs i 0 < 256) → (i : ℕ) → get_or (front 8 xs) i 0 < 256
front_small xs h i = grind (arith, front_at 8 i xs, front_past 8 i xs, h i)

greater_less : Greater ≡ Less → ⊥
greater_less h = cc

equal_less : Equal ≡ Less → ⊥
equal_less h = cc

then_less : (o : Ordering) {r s : Ordering} → (r ≡ Less → s ≡ Less) → ordering_then o r ≡ Less → ordering_then o s ≡ Less
then_less Less f h = refl
then_less Equal f h = f h
then_less Greater f h = absurd (greater_less h)

front_less : (k : ℕ) (xs ys : List ℕ) → slice_cmp nat_cmp (front k xs) (front k ys) ≡ Less → slice_cmp nat_cmp xs ys ≡ Less
front_less zero xs ys h = absurd (equal_less h)
front_less (suc k) [] [] h = front_less k [] [] h
front_less (suc k) [] (y ∷ ys) h = refl
front_less (suc k) (zero ∷ xs) [] h = absurd (below_none xs (front_less k xs [] h))
  where
    below_none : (zs : List ℕ) → slice_cmp nat_cmp zs [] ≡ Less → ⊥
    below_none [] e = equal_less e
    below_none (z ∷ zs) e = greater_less e
front_less (suc k) (suc x ∷ xs) [] h = absurd (greater_less (ap (λ o. ordering_then o (slice_cmp nat_cmp (front k xs) (front k []))) (nat_cmp_is (suc x) 0 Greater (omega arith)) ∙ h))
front_less (suc k) (x ∷ xs) (y ∷ ys) h = then_less (nat_cmp x y) (front_less k xs ys) h

heads_order : (xs ys : List ℕ) (m n : ℕ) → IsHead xs m → IsHead ys n → nat_cmp m n ≡ slice_cmp nat_cmp (front 8 xs) (front 8 ys)
heads_order xs ys m n p q =
    by_words (front 8 xs) (front 8 ys) m n (long_front 8 xs) (long_front 8 ys) (front_small xs p.1) (front_small ys q.1)
    (p.0 ∙ same_number xs (front 8 xs) (λ i h. sym (front_at 8 i xs h))) (q.0 ∙ same_number ys (front 8 ys) (λ i h. sym (front_at 8 i ys h)))

less_by_heads : (xs ys : List ℕ) (m n : ℕ) → IsHead xs m → IsHead ys n → nat_cmp m n ≡ Less → slice_cmp nat_cmp xs ys ≡ Less
less_by_heads xs ys m n p q e = front_less 8 xs ys (sym (heads_order xs ys m n p q) ∙ e)

-- heads that differ decide
pub heads_decide : (xs ys : List ℕ) (m n : ℕ) (o : Ordering) → IsHead xs m → IsHead ys n → nat_cmp m n ≡ o → (o ≡ Equal → ⊥) → o ≡ slice_cmp nat_cmp xs ys
heads_decide xs ys m n Less p q e h = sym (less_by_heads xs ys m n p q e)
heads_decide xs ys m n Equal p q e h = absurd (h refl)
heads_decide xs ys m n Greater p q e h =
    sym (nat_list_cmp_total.antisymm xs ys ∙ ap ordering_reverse (less_by_heads ys xs n m q p (nat_cmp_total.antisymm n m ∙ ap ordering_reverse e)))

past : (xs : List ℕ) (i : ℕ) → length xs ≤ i → get_or xs i 0 ≡ 0
past [] i h = refl
past (x ∷ xs) zero h = absurd (not-suc-le-zero h)
past (x ∷ xs) (suc i) h = past xs i (le_of_suc-le-suc h)

-- items that were copied as far as they go, before zeros
pub ended_front : (front xs : List ℕ) (end : ℕ) → length xs ≤ end → ((k : ℕ) → k < end → get_or front k 0 ≡ get_or xs k 0) → ((k : ℕ) → end ≤ k → get_or front k 0 ≡ 0)
    → (i : ℕ) → i < 8 → get_or front i 0 ≡ get_or xs i 0
ended_front front xs end l f g i h = grind (arith, f i, g i, past xs i)
