-- The order of lists of bytes that are filled up with zeros.
use Rattle.std.proofs.Common.{◌≡◌, refl, sym, ap, ◌∙◌, ℕ, zero, suc, ◌+◌, ◌-◌, ◌<◌, List, [], ◌∷◌, ◌++◌, length, take, Ordering, Less, Equal, Greater, nat_cmp, false, true≢false, arith}
use Rattle.std.specs.Prelude.{replicate}
use Rattle.std.specs.Ordering.{ordering_then, is_ne, MatchOrdering}
use Rattle.std.specs.Cmp.{nat_cmp_is, ranked}
use Rattle.std.proofs.lemmas.List.{length-take-le}
use Rattle.std.specs.Cmp.Lexicographic.{slice_cmp}
use Rattle.go_base.specs.FilledUp.{IsFilledUp}

then_assoc : (a b c : Ordering) → ordering_then (ordering_then a b) c ≡ ordering_then a (ordering_then b c)
then_assoc Less b c = refl
then_assoc Equal b c = refl
then_assoc Greater b c = refl

-- zeros are the least
least : (ws : List ℕ) (j : ℕ) → j ≡ length ws → ordering_then (slice_cmp nat_cmp (replicate j 0) ws) Less ≡ Less
least [] zero e = refl
least [] (suc j) e = absurd (omega arith)
least (w ∷ ws) zero e = absurd (omega arith)
least (zero ∷ ws) (suc j) e = least ws j (omega arith)
least (suc w ∷ ws) (suc j) e =
    ap (λ o. ordering_then (ordering_then o (slice_cmp nat_cmp (replicate j 0) ws)) Less) (sym (nat_cmp_is 0 (suc w) Less (omega arith)))

above : (ws : List ℕ) (j : ℕ) → length ws ≡ j → ordering_then (slice_cmp nat_cmp ws (replicate j 0)) Greater ≡ Greater
above [] zero e = refl
above [] (suc j) e = absurd (omega arith)
above (w ∷ ws) zero e = absurd (omega arith)
above (zero ∷ ws) (suc j) e = above ws j (omega arith)
above (suc w ∷ ws) (suc j) e =
    ap (λ o. ordering_then (ordering_then o (slice_cmp nat_cmp ws (replicate j 0))) Greater) (sym (nat_cmp_is (suc w) 0 Greater (omega arith)))

zeros_same : (j k : ℕ) → j ≡ k → slice_cmp nat_cmp (replicate j 0) (replicate k 0) ≡ Equal
zeros_same zero zero e = refl
zeros_same zero (suc k) e = absurd (omega arith)
zeros_same (suc j) zero e = absurd (omega arith)
zeros_same (suc j) (suc k) e = zeros_same j k (omega arith)

long : (xs : List ℕ) (k : ℕ) → length (xs ++ replicate k 0) ≡ length xs + k
long [] zero = refl
long [] (suc k) = ap suc (long [] k) ∙ omega arith
long (x ∷ xs) k = ap suc (long xs k) ∙ omega arith

-- one more of both
raised : (m n : ℕ) → nat_cmp (suc m) (suc n) ≡ nat_cmp m n
raised m n = by (nat_cmp m n) (ranked m n _ refl)
  where
    by : (p : Ordering) → MatchOrdering p (m < n) (m ≡ n) (n < m) → nat_cmp (suc m) (suc n) ≡ p
    by Less q = let l : m < n = q in sym (nat_cmp_is (suc m) (suc n) Less (omega arith))
    by Equal q = let l : m ≡ n = q in sym (nat_cmp_is (suc m) (suc n) Equal (omega arith))
    by Greater q = let l : n < m = q in sym (nat_cmp_is (suc m) (suc n) Greater (omega arith))

filled : (xs ys : List ℕ) (j k : ℕ) → length xs + j ≡ length ys + k
    → ordering_then (slice_cmp nat_cmp (xs ++ replicate j 0) (ys ++ replicate k 0)) (nat_cmp (length xs) (length ys)) ≡ slice_cmp nat_cmp xs ys
filled [] [] j k e = ap (λ o. ordering_then o (nat_cmp 0 0)) (zeros_same j k (omega arith)) ∙ sym (nat_cmp_is 0 0 Equal (omega arith))
filled [] (y ∷ ys) j k e =
    let l = long (y ∷ ys) k in
    ap (ordering_then (slice_cmp nat_cmp (replicate j 0) (y ∷ ys ++ replicate k 0))) (sym (nat_cmp_is 0 (length (y ∷ ys)) Less (omega arith)))
    ∙ least (y ∷ ys ++ replicate k 0) j (omega (arith, l))
filled (x ∷ xs) [] j k e =
    let l = long (x ∷ xs) j in
    ap (ordering_then (slice_cmp nat_cmp (x ∷ xs ++ replicate j 0) (replicate k 0))) (sym (nat_cmp_is (length (x ∷ xs)) 0 Greater (omega arith)))
    ∙ above (x ∷ xs ++ replicate j 0) k (omega (arith, l))
filled (x ∷ xs) (y ∷ ys) j k e =
    ap (ordering_then (slice_cmp nat_cmp (x ∷ xs ++ replicate j 0) (y ∷ ys ++ replicate k 0))) (raised (length xs) (length ys))
    ∙ then_assoc (nat_cmp x y) _ _
    ∙ ap (ordering_then (nat_cmp x y)) (filled xs ys j k (omega arith))

-- the order of the whole, and then of the lengths
pub filled_up : (m n : ℕ) (xs ys : List ℕ) → IsFilledUp m xs → IsFilledUp n ys
    → ordering_then (slice_cmp nat_cmp xs ys) (nat_cmp m n) ≡ slice_cmp nat_cmp (take m xs) (take n ys)
filled_up m n xs ys p q =
    let a : length (take m xs) ≡ m = length-take-le m xs (let w = p.whole in let f = p.fits in omega (arith, w, f)) in
    let b : length (take n ys) ≡ n = length-take-le n ys (let w = q.whole in let f = q.fits in omega (arith, w, f)) in
    (λ i. ordering_then (slice_cmp nat_cmp (p.zeros i) (q.zeros i)) (nat_cmp (sym a i) (sym b i)))
    ∙ filled (take m xs) (take n ys) (14 - m) (14 - n) (let f = p.fits in let g = q.fits in omega (arith, a, b, f, g))

decided : (p r : Ordering) → (p ≡ Equal → ⊥) → ordering_then p r ≡ p
decided Less r f = refl
decided Equal r f = absurd (f refl)
decided Greater r f = refl

-- the order of the whole, where they differ
pub filled_apart : (m n : ℕ) (xs ys : List ℕ) (p : Ordering) → IsFilledUp m xs → IsFilledUp n ys → p ≡ slice_cmp nat_cmp xs ys → (p ≡ Equal → ⊥)
    → p ≡ slice_cmp nat_cmp (take m xs) (take n ys)
filled_apart m n xs ys p a b e f =
    sym (decided p (nat_cmp m n) f) ∙ ap (λ o. ordering_then o (nat_cmp m n)) e ∙ filled_up m n xs ys a b

-- the order of the lengths, where they are the same
pub filled_alike : (m n : ℕ) (xs ys : List ℕ) (p r : Ordering) → IsFilledUp m xs → IsFilledUp n ys → p ≡ slice_cmp nat_cmp xs ys → p ≡ Equal → r ≡ nat_cmp m n
    → r ≡ slice_cmp nat_cmp (take m xs) (take n ys)
filled_alike m n xs ys p r a b e f g =
    g ∙ ap (λ o. ordering_then o (nat_cmp m n)) (sym f ∙ e) ∙ filled_up m n xs ys a b

pub equal_where : (p : Ordering) → is_ne p ≡ false → p ≡ Equal
equal_where Less e = absurd (true≢false e)
equal_where Equal e = refl
equal_where Greater e = absurd (true≢false e)
