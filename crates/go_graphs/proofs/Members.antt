-- The members of the front of a list, and of its rest.
use Rattle.std.proofs.Common.{◌≡◌, ℕ, zero, suc, ◌+◌, ◌<◌, List, [], ◌∷◌, length, get_or, take, add-one, refl, sym, subst, ◌⊎◌, inl, inr, arith}
use Rattle.std.proofs.Common.{◌++◌, ◌∙◌, ap}
use Rattle.std.proofs.Math.Seq.{take-append_seam}
use Rattle.go_base.specs.Lists.{Has}

pub has_at : (xs : List ℕ) (i : ℕ) → i < length xs → Has xs (get_or xs i 0)
has_at [] i h = absurd (omega (arith, h))
has_at (x ∷ xs) zero h = inl refl
has_at (x ∷ xs) (suc i) h = inr (has_at xs i (omega (arith, h)))

one_more : (xs : List ℕ) (i n : ℕ) → i < length xs → Has (take (suc i) xs) n → Has (take i xs) n ⊎ (get_or xs i 0 ≡ n)
one_more [] i n h m = absurd m
one_more (x ∷ xs) zero n h (inl e) = inr e
one_more (x ∷ xs) zero n h (inr m) = absurd m
one_more (x ∷ xs) (suc i) n h (inl e) = inl (inl e)
one_more (x ∷ xs) (suc i) n h (inr m) = elim (one_more xs i n (omega (arith, h)) m) [ inl l ↦ inl (inr l) | inr r ↦ inr r ]

-- a member of one more is one of those before, or the next
pub has_more : (xs : List ℕ) (i n : ℕ) → i < length xs → Has (take (i + 1) xs) n → Has (take i xs) n ⊎ (get_or xs i 0 ≡ n)
has_more xs i n h m = one_more xs i n h (subst (λ (k : ℕ). Has (take k xs) n) (add-one i) m)

front_more : (xs : List ℕ) (i n : ℕ) → Has (take i xs) n → Has (take (suc i) xs) n
front_more [] zero n h = absurd h
front_more [] (suc i) n h = absurd h
front_more (x ∷ xs) zero n h = absurd h
front_more (x ∷ xs) (suc i) n (inl e) = inl e
front_more (x ∷ xs) (suc i) n (inr h) = inr (front_more xs i n h)

last_of : (xs : List ℕ) (i : ℕ) → i < length xs → Has (take (suc i) xs) (get_or xs i 0)
last_of [] i h = absurd (omega (arith, h))
last_of (x ∷ xs) zero h = inl refl
last_of (x ∷ xs) (suc i) h = inr (last_of xs i (omega (arith, h)))

pub has_next : (xs : List ℕ) (i : ℕ) → i < length xs → Has (take (i + 1) xs) (get_or xs i 0)
has_next xs i h = subst (λ (k : ℕ). Has (take k xs) (get_or xs i 0)) (sym (add-one i)) (last_of xs i h)

pub has_front : (xs : List ℕ) (i n : ℕ) → Has (take i xs) n → Has xs n
has_front [] zero n h = absurd h
has_front [] (suc i) n h = absurd h
has_front (x ∷ xs) zero n h = absurd h
has_front (x ∷ xs) (suc i) n (inl e) = inl e
has_front (x ∷ xs) (suc i) n (inr h) = inr (has_front xs i n h)

pub has_before : (xs : List ℕ) (i n : ℕ) → Has (take i xs) n → Has (take (i + 1) xs) n
has_before xs i n h = subst (λ (k : ℕ). Has (take k xs) n) (sym (add-one i)) (front_more xs i n h)

-- what is written back over the whole of a vector
pub written : {A : Type 0} (xs ys : List A) (n : ℕ) → n ≡ length xs → take n (xs ++ ys) ≡ xs
written xs ys n e = ap (λ k. take k (xs ++ ys)) e ∙ take-append_seam xs ys
