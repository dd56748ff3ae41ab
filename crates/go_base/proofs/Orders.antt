-- The order of lists of bytes, and of words of eight of them, the highest first.
use Rattle.std.proofs.Common.{◌≡◌, refl, sym, ap, ◌∙◌, ℕ, zero, suc, ◌+◌, ◌*◌, ◌<◌, ◌≤◌, List, [], ◌∷◌, length, take, drop, get_or, Ordering, Less, Equal, Greater, nat_cmp, le_of_suc-le-suc, not-suc-le-zero, arith, w64}
use Rattle.std.specs.Int.{from_be_bytes}
use Rattle.std.specs.Ordering.{ordering_then, MatchOrdering}
use Rattle.std.specs.Cmp.{nat_cmp_is, ranked}
use Rattle.std.specs.Cmp.Lexicographic.{slice_cmp}

-- the parts in front, and then what follows them
pub by_parts : (n : ℕ) (xs ys : List ℕ) → n ≤ length xs → n ≤ length ys
    → ordering_then (slice_cmp nat_cmp (take n xs) (take n ys)) (slice_cmp nat_cmp (drop n xs) (drop n ys)) ≡ slice_cmp nat_cmp xs ys
by_parts zero xs ys p q = refl
by_parts (suc n) [] ys p q = absurd (not-suc-le-zero p)
by_parts (suc n) (x ∷ xs) [] p q = absurd (not-suc-le-zero q)
by_parts (suc n) (x ∷ xs) (y ∷ ys) p q =
    then_assoc (nat_cmp x y) _ _ ∙ ap (ordering_then (nat_cmp x y)) (by_parts n xs ys (le_of_suc-le-suc p) (le_of_suc-le-suc q))
  where
    then_assoc : (a b c : Ordering) → ordering_then (ordering_then a b) c ≡ ordering_then a (ordering_then b c)
    then_assoc Less b c = refl
    then_assoc Equal b c = refl
    then_assoc Greater b c = refl

-- numbers whose last digit is below 256
step : (h k x y : ℕ) (r : Ordering) → x < 256 → y < 256
    → ordering_then (nat_cmp h k) (ordering_then (nat_cmp x y) r) ≡ ordering_then (nat_cmp (h * 256 + x) (k * 256 + y)) r
step h k x y r x' y' = by (nat_cmp h k) (nat_cmp x y) (ranked h k _ refl) (ranked x y _ refl)
  where
    by : (p q : Ordering) → MatchOrdering p (h < k) (h ≡ k) (k < h) → MatchOrdering q (x < y) (x ≡ y) (y < x)
        → ordering_then p (ordering_then q r) ≡ ordering_then (nat_cmp (h * 256 + x) (k * 256 + y)) r
    by Less q m n = let l : h < k = m in ap (λ o. ordering_then o r) (nat_cmp_is (h * 256 + x) (k * 256 + y) Less (omega arith))
    by Greater q m n = let l : k < h = m in ap (λ o. ordering_then o r) (nat_cmp_is (h * 256 + x) (k * 256 + y) Greater (omega arith))
    by Equal Less m n = let e : h ≡ k = m in let l : x < y = n in ap (λ o. ordering_then o r) (nat_cmp_is (h * 256 + x) (k * 256 + y) Less (omega arith))
    by Equal Equal m n = let e : h ≡ k = m in let l : x ≡ y = n in ap (λ o. ordering_then o r) (nat_cmp_is (h * 256 + x) (k * 256 + y) Equal (omega arith))
    by Equal Greater m n = let e : h ≡ k = m in let l : y < x = n in ap (λ o. ordering_then o r) (nat_cmp_is (h * 256 + x) (k * 256 + y) Greater (omega arith))

eight : (xs : List ℕ) → length xs ≡ 8 → get_or xs 0 0 ∷ get_or xs 1 0 ∷ get_or xs 2 0 ∷ get_or xs 3 0 ∷ get_or xs 4 0 ∷ get_or xs 5 0 ∷ get_or xs 6 0 ∷ get_or xs 7 0 ∷ [] ≡ xs
eight [] l = absurd (omega arith)
eight (a ∷ []) l = absurd (omega arith)
eight (a ∷ b ∷ []) l = absurd (omega arith)
eight (a ∷ b ∷ c ∷ []) l = absurd (omega arith)
eight (a ∷ b ∷ c ∷ d ∷ []) l = absurd (omega arith)
eight (a ∷ b ∷ c ∷ d ∷ e ∷ []) l = absurd (omega arith)
eight (a ∷ b ∷ c ∷ d ∷ e ∷ f ∷ []) l = absurd (omega arith)
eight (a ∷ b ∷ c ∷ d ∷ e ∷ f ∷ g ∷ []) l = absurd (omega arith)
eight (a ∷ b ∷ c ∷ d ∷ e ∷ f ∷ g ∷ h ∷ []) l = refl
eight (a ∷ b ∷ c ∷ d ∷ e ∷ f ∷ g ∷ h ∷ i ∷ xs) l = absurd (omega arith)

then_equal : (r : Ordering) → r ≡ ordering_then r Equal
then_equal Less = refl
then_equal Equal = refl
then_equal Greater = refl

-- one digit more of both
abbrev Small : (ℕ → ℕ) → Type 0
Small f = (i : ℕ) → f i < 256

abbrev horner : (ℕ → ℕ) → ℕ → ℕ
horner f zero = f 0
horner f (suc k) = horner f k * 256 + f (suc k)

words : (f g : ℕ → ℕ) → Small f → Small g
    → slice_cmp nat_cmp (f 0 ∷ f 1 ∷ f 2 ∷ f 3 ∷ f 4 ∷ f 5 ∷ f 6 ∷ f 7 ∷ []) (g 0 ∷ g 1 ∷ g 2 ∷ g 3 ∷ g 4 ∷ g 5 ∷ g 6 ∷ g 7 ∷ [])
    ≡ nat_cmp (horner f 7) (horner g 7)
words f g f' g' =
    step (horner f 0) (horner g 0) (f 1) (g 1) _ (f' 1) (g' 1)
    ∙ step (horner f 1) (horner g 1) (f 2) (g 2) _ (f' 2) (g' 2)
    ∙ step (horner f 2) (horner g 2) (f 3) (g 3) _ (f' 3) (g' 3)
    ∙ step (horner f 3) (horner g 3) (f 4) (g 4) _ (f' 4) (g' 4)
    ∙ step (horner f 4) (horner g 4) (f 5) (g 5) _ (f' 5) (g' 5)
    ∙ step (horner f 5) (horner g 5) (f 6) (g 6) _ (f' 6) (g' 6)
    ∙ step (horner f 6) (horner g 6) (f 7) (g 7) Equal (f' 7) (g' 7)
    ∙ sym (then_equal (nat_cmp (horner f 7) (horner g 7)))

written : (a b c d e f g h n : ℕ) → n ≡ a * 72057594037927936 + b * 281474976710656 + c * 1099511627776 + d * 4294967296 + e * 16777216 + f * 65536 + g * 256 + h
    → n ≡ ((((((a * 256 + b) * 256 + c) * 256 + d) * 256 + e) * 256 + f) * 256 + g) * 256 + h
written a b c d e f g h n is = omega arith

word : (xs : List ℕ) (n : ℕ) → n ≡ from_be_bytes w64 xs → n ≡ horner (λ i. get_or xs i 0) 7
word xs n is = written (get_or xs 0 0) (get_or xs 1 0) (get_or xs 2 0) (get_or xs 3 0) (get_or xs 4 0) (get_or xs 5 0) (get_or xs 6 0) (get_or xs 7 0) n (omega arith)

pub by_words : (xs ys : List ℕ) (m n : ℕ) → length xs ≡ 8 → length ys ≡ 8 → Small (λ i. get_or xs i 0) → Small (λ i. get_or ys i 0)
    → m ≡ from_be_bytes w64 xs → n ≡ from_be_bytes w64 ys → nat_cmp m n ≡ slice_cmp nat_cmp xs ys
by_words xs ys m n p q xs' ys' m-is n-is =
    (λ i. nat_cmp (word xs m m-is i) (word ys n n-is i))
    ∙ sym (words (λ i. get_or xs i 0) (λ i. get_or ys i 0) xs' ys')
    ∙ (λ i. slice_cmp nat_cmp (eight xs p i) (eight ys q i))
