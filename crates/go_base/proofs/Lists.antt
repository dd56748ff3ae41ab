-- General facts about lists.
use Rattle.std.proofs.Common.{◌≡◌, ℕ, zero, suc, ◌-◌, ◌<◌, ◌≤◌, List, [], ◌∷◌, ◌++◌, length, get_or, take, drop, refl, sym, ap, arith, length-drop}

-- a list is its front and its rest
pub split : {A : Type 0} (n : ℕ) (xs : List A) → take n xs ++ drop n xs ≡ xs
split zero xs = refl
split (suc n) [] = refl
split (suc n) (x ∷ xs) = ap (λ ys. x ∷ ys) (split n xs)

-- a list is its front, an element and its rest
pub split_at : {A : Type 0} (n : ℕ) (xs : List A) (d x : A) → n < length xs → get_or xs n d ≡ x → xs ≡ take n xs ++ (x ∷ drop (suc n) xs)
split_at n [] d x h e = absurd (omega arith)
split_at zero (y ∷ ys) d x h e = ap (λ z. z ∷ ys) e
split_at (suc n) (y ∷ ys) d x h e = ap (λ zs. y ∷ zs) (split_at n ys d x (omega arith) e)

take_whole : {A : Type 0} (xs : List A) → take (length xs) xs ≡ xs
take_whole [] = refl
take_whole (x ∷ xs) = ap (λ ys. x ∷ ys) (take_whole xs)

-- the rest of a slice from a place on
pub rest_from : {A : Type 0} (n : ℕ) (xs : List A) → take (length xs - n) (drop n xs) ≡ drop n xs
rest_from n xs = rw (sym (length-drop n xs)) (take_whole (drop n xs))

pub take_past : {A : Type 0} (n : ℕ) (xs : List A) → length xs ≤ n → take n xs ≡ xs
take_past zero [] h = refl
take_past zero (x ∷ xs) h = absurd (omega arith)
take_past (suc n) [] h = refl
take_past (suc n) (x ∷ xs) h = ap (λ ys. x ∷ ys) (take_past n xs (omega arith))

pub length_take : {A : Type 0} (n : ℕ) (xs : List A) → n ≤ length xs → length (take n xs) ≡ n
length_take zero xs h = refl
length_take (suc n) [] h = absurd (omega arith)
length_take (suc n) (x ∷ xs) h = ap suc (length_take n xs (omega arith))

pub drop_past : {A : Type 0} (n : ℕ) (xs : List A) → length xs ≤ n → drop n xs ≡ []
drop_past zero [] h = refl
drop_past zero (x ∷ xs) h = absurd (omega arith)
drop_past (suc n) [] h = refl
drop_past (suc n) (x ∷ xs) h = drop_past n xs (omega arith)
