-- Flags of the declarations that pass a test, and names of which one passes.
use Rattle.std.proofs.Common.{◌≡◌, ℕ, zero, suc, ◌+◌, ◌<◌, Bool, true, false, ◌||◌, List, [], ◌∷◌, ◌++◌, add-one, drop, drop-cons, get_or, length, map, take, refl, sym, ap, ◌∙◌, subst, Option, Some, None, arith}
use Rattle.std.specs.List.{list_any}
use Rattle.go_graphs.specs.Flags.{AreFlagsOf, is_flagged}
use Rattle.go_graphs.proofs.Flagging.{apart}
use Rattle.go_typings.specs.Assignments.{At}
use Rattle.go_typings.proofs.Cells.{none_some, some_once}

-- ---- one of a list

-- the next one passes, or one behind it
pub any_next : {A : Type 0} (p : A → Bool) (xs : List A) (i : ℕ) (x : A) → i < length xs → x ≡ get_or xs i x → list_any p (drop i xs) ≡ (p x || list_any p (drop (i + 1) xs))
any_next p xs i x l e = ap (list_any p) (drop-cons xs i x l ∙ ap (λ y. y ∷ drop (suc i) xs) (sym e)) ∙ ap (λ n. p x || list_any p (drop n xs)) (sym (add-one i))

pub first_passes : (b c d : Bool) → d ≡ (b || c) → b ≡ true → d ≡ true
first_passes b c d e f = e ∙ ap (λ z. z || c) f

pub first_fails : (b c d : Bool) → d ≡ (b || c) → b ≡ false → c ≡ d
first_fails b c d e f = sym (e ∙ ap (λ z. z || c) f)

pub none_behind : {A : Type 0} (p : A → Bool) (xs : List A) (i : ℕ) → length xs < i + 1 → list_any p (drop i xs) ≡ false
none_behind p [] zero h = refl
none_behind p [] (suc i) h = refl
none_behind p (x ∷ xs) zero h = absurd (omega (arith, h))
none_behind p (x ∷ xs) (suc i) h = none_behind p xs i (omega (arith, h))

-- ---- flags

map_next : {A B : Type 0} (f : A → B) (xs : List A) (i : ℕ) (x : A) → i < length xs → x ≡ get_or xs i x → map f (take i xs) ++ f x ∷ [] ≡ map f (take (suc i) xs)
map_next f [] i x h e = absurd (omega (arith, h))
map_next f (y ∷ ys) zero x h e = ap (λ z. f z ∷ []) e
map_next f (y ∷ ys) (suc i) x h e = ap (λ zs. f y ∷ zs) (map_next f ys i x (omega (arith, h)) e)

-- the image of one more
pub mapped_next : {A B : Type 0} (f : A → B) (xs : List A) (i : ℕ) (x : A) (ys : List B) → i < length xs → x ≡ get_or xs i x → ys ≡ map f (take i xs) → ys ++ f x ∷ [] ≡ map f (take (i + 1) xs)
mapped_next f xs i x ys h e is = ap (λ zs. zs ++ f x ∷ []) is ∙ map_next f xs i x h e ∙ ap (λ n. map f (take n xs)) (sym (add-one i))

pub map_size : {A B : Type 0} (f : A → B) (xs : List A) → length (map f xs) ≡ length xs
map_size f [] = refl
map_size f (x ∷ xs) = ap suc (map_size f xs)

module _ {A : Type 0} (p : A → Bool) where
  passes_at : (xs : List A) (n : ℕ) → is_flagged (map p xs) n ≡ true → At xs n (λ x. p x ≡ true)
  passes_at [] n e = apart (sym e)
  passes_at (x ∷ xs) zero e = (x, refl, e)
  passes_at (x ∷ xs) (suc n) e = passes_at xs n e

  at_passes : (xs : List A) (n : ℕ) → At xs n (λ x. p x ≡ true) → is_flagged (map p xs) n ≡ true
  at_passes [] n k = none_some None k.0 refl k.1
  at_passes (x ∷ xs) zero k = ap p (some_once x k.0 k.1) ∙ k.2
  at_passes (x ∷ xs) (suc n) k = at_passes xs n k

  pub flags_of_map : (xs : List A) → AreFlagsOf (length xs) (λ n. At xs n (λ x. p x ≡ true)) (map p xs)
  flags_of_map xs = record { size = map_size p xs; sound = passes_at xs; complete = λ n l k. at_passes xs n k }
