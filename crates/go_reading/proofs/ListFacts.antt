-- Facts of lists: ascending texts, and lists that are made from others.
use Rattle.std.proofs.Common.{◌≡◌, ℕ, zero, suc, ◌≤◌, Bool, true, false, cond, List, [], ◌∷◌, ◌++◌, length, map, get_or, refl, ap, inl, inr, arith}
use Rattle.std.specs.List.{filter}
use Rattle.go_base.specs.Lists.{Has, Each, Before, Ascending}

module _ {A B : Type 0} (f : A → B) where
  pub map_more : (xs ys : List A) → map f (xs ++ ys) ≡ map f xs ++ map f ys
  map_more [] ys = refl
  map_more (x ∷ xs) ys = ap (λ (w : List B). f x ∷ w) (map_more xs ys)

  pub has_mapped : (xs : List A) (x : A) → Has xs x → Has (map f xs) (f x)
  has_mapped [] x h = absurd h
  has_mapped (y ∷ xs) x (inl e) = inl (ap f e)
  has_mapped (y ∷ xs) x (inr h) = inr (has_mapped xs x h)

  pub mapped_from : (xs : List A) (y : B) → Has (map f xs) y → (x : A) × Has xs x × (f x ≡ y)
  mapped_from [] y h = absurd h
  mapped_from (x ∷ xs) y (inl e) = (x, inl refl, e)
  mapped_from (x ∷ xs) y (inr h) = let p = mapped_from xs y h in (p.0, inr p.1, p.2)

  pub length_mapped : (xs : List A) → length (map f xs) ≡ length xs
  length_mapped [] = refl
  length_mapped (x ∷ xs) = ap suc (length_mapped xs)

  pub get_mapped : (xs : List A) (n : ℕ) (d : A) → get_or (map f xs) n (f d) ≡ f (get_or xs n d)
  get_mapped [] n d = refl
  get_mapped (x ∷ xs) zero d = refl
  get_mapped (x ∷ xs) (suc n) d = get_mapped xs n d

  pub each_mapped : (P : B → Type 0) (xs : List A) → Each (λ (x : A). P (f x)) xs → Each P (map f xs)
  each_mapped P [] h = tt
  each_mapped P (x ∷ xs) h = (h.0, each_mapped P xs h.1)

module _ {A : Type 0} where
  pub past_end : (xs : List A) (n : ℕ) (d : A) → length xs ≤ n → get_or xs n d ≡ d
  past_end [] n d h = refl
  past_end (x ∷ xs) zero d h = absurd (omega arith)
  past_end (x ∷ xs) (suc n) d h = past_end xs n d (omega arith)

  pub each_of : (P : A → Type 0) (xs : List A) → ((x : A) → Has xs x → P x) → Each P xs
  each_of P [] h = tt
  each_of P (x ∷ xs) h = (h x (inl refl), each_of P xs (λ y k. h y (inr k)))

  kept_by : (p : A → Bool) (x y : A) (xs : List A) (b : Bool) → Has (cond b (x ∷ filter p xs) (filter p xs)) y → (Has (filter p xs) y → Has xs y) → Has (x ∷ xs) y
  kept_by p x y xs true (inl e) rest = inl e
  kept_by p x y xs true (inr h) rest = inr (rest h)
  kept_by p x y xs false h rest = inr (rest h)

  -- what a filter keeps was there
  pub kept_from : (p : A → Bool) (xs : List A) (y : A) → Has (filter p xs) y → Has xs y
  kept_from p [] y h = absurd h
  kept_from p (x ∷ xs) y h = kept_by p x y xs (p x) h (kept_from p xs y)

  shorter_by : (p : A → Bool) (x : A) (xs : List A) (b : Bool) → length (filter p xs) ≤ length xs → length (cond b (x ∷ filter p xs) (filter p xs)) ≤ length (x ∷ xs)
  shorter_by p x xs true h = omega arith
  shorter_by p x xs false h = omega arith

  pub kept_shorter : (p : A → Bool) (xs : List A) → length (filter p xs) ≤ length xs
  kept_shorter p [] = omega arith
  kept_shorter p (x ∷ xs) = shorter_by p x xs (p x) (kept_shorter p xs)

each_front : {A : Type 0} (P : A → Type 0) (xs : List A) (x : A) → Each P (xs ++ x ∷ []) → Each P xs
each_front P [] x h = tt
each_front P (y ∷ xs) x h = (h.0, each_front P xs x h.1)

each_last : {A : Type 0} (P : A → Type 0) (xs : List A) (x : A) → Each P (xs ++ x ∷ []) → P x
each_last P [] x h = h.0
each_last P (y ∷ xs) x h = each_last P xs x h.1

pub each_snoc : {A : Type 0} (P : A → Type 0) (xs : List A) (x : A) → Each P xs → P x → Each P (xs ++ x ∷ [])
each_snoc P [] x h p = (p, tt)
each_snoc P (y ∷ xs) x h p = (h.0, each_snoc P xs x h.1 p)

pub ascending_front : (xs : List (List ℕ)) (x : List ℕ) → Ascending (xs ++ x ∷ []) → Ascending xs
ascending_front [] x h = tt
ascending_front (y ∷ xs) x h = (each_front (Before y) xs x h.0, ascending_front xs x h.1)

pub ascending_last : (xs : List (List ℕ)) (x : List ℕ) → Ascending (xs ++ x ∷ []) → Each (λ (y : List ℕ). Before y x) xs
ascending_last [] x h = tt
ascending_last (y ∷ xs) x h = (each_last (Before y) xs x h.0, ascending_last xs x h.1)

pub ascending_snoc : (xs : List (List ℕ)) (x : List ℕ) → Ascending xs → Each (λ (y : List ℕ). Before y x) xs → Ascending (xs ++ x ∷ [])
ascending_snoc [] x h b = (tt, tt)
ascending_snoc (y ∷ xs) x h b = (each_snoc (Before y) xs x h.0 b.0, ascending_snoc xs x h.1 b.1)
