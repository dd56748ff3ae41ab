-- Items at places of lists.
use Rattle.std.proofs.Common.{◌≡◌, ◌<◌, ◌≤◌, ◌+◌, ◌⊎◌, inl, inr, ℕ, zero, suc, List, [], ◌∷◌, ◌++◌, length, map, get_or, refl, sym, ap, ◌∙◌, subst, arith}
use Rattle.go_base.specs.Lists.{Has, Once}
use Rattle.api_correspond.specs.inner.Tables.{At}

module _ {A : Type 0} where
  pub at_left : (xs ys : List A) (i : ℕ) (x : A) → At xs i x → At (xs ++ ys) i x
  at_left [] ys i x h = absurd h
  at_left (y ∷ xs) ys zero x h = h
  at_left (y ∷ xs) ys (suc i) x h = at_left xs ys i x h

  pub at_last : (xs : List A) (x : A) → At (xs ++ x ∷ []) (length xs) x
  at_last [] x = refl
  at_last (y ∷ xs) x = at_last xs x

  pub at_within : (xs : List A) (i : ℕ) (x : A) → At xs i x → i < length xs
  at_within [] i x h = absurd h
  at_within (y ∷ xs) zero x h = omega arith
  at_within (y ∷ xs) (suc i) x h = let k = at_within xs i x h in omega arith

  pub at_same : (xs : List A) (i : ℕ) (x y : A) → At xs i x → At xs i y → x ≡ y
  at_same [] i x y h k = absurd h
  at_same (z ∷ xs) zero x y h k = sym h ∙ k
  at_same (z ∷ xs) (suc i) x y h k = at_same xs i x y h k

  pub at_has : (xs : List A) (i : ℕ) (x : A) → At xs i x → Has xs x
  at_has [] i x h = absurd h
  at_has (y ∷ xs) zero x h = inl h
  at_has (y ∷ xs) (suc i) x h = inr (at_has xs i x h)

  pub has_at : (xs : List A) (x : A) → Has xs x → (i : ℕ) × At xs i x
  has_at [] x h = absurd h
  has_at (y ∷ xs) x (inl e) = (0, e)
  has_at (y ∷ xs) x (inr h) = let k = has_at xs x h in (suc k.0, k.1)

  pub at_once : (xs : List A) (i j : ℕ) (x : A) → Once xs → At xs i x → At xs j x → i ≡ j
  at_once [] i j x o h k = absurd h
  at_once (y ∷ xs) zero zero x o h k = refl
  at_once (y ∷ xs) zero (suc j) x o h k = absurd (o.0 (subst (Has xs) (sym h) (at_has xs j x k)))
  at_once (y ∷ xs) (suc i) zero x o h k = absurd (o.0 (subst (Has xs) (sym k) (at_has xs i x h)))
  at_once (y ∷ xs) (suc i) (suc j) x o h k = ap suc (at_once xs i j x o.1 h k)

  pub at_back : (xs : List A) (x y : A) (i : ℕ) → At (xs ++ x ∷ []) i y → At xs i y ⊎ ((i ≡ length xs) × (x ≡ y))
  at_back [] x y zero h = inr (refl, h)
  at_back [] x y (suc i) h = absurd h
  at_back (z ∷ xs) x y zero h = inl h
  at_back (z ∷ xs) x y (suc i) h = elim (at_back xs x y i h) [ inl a ↦ inl a | inr b ↦ inr (ap suc b.0, b.1) ]

  -- what a list has at a number, by the item there
  pub at_get : (xs : List A) (i : ℕ) (x : A) → i < length xs → x ≡ get_or xs i x → At xs i x
  at_get [] i x h e = absurd (omega arith)
  at_get (y ∷ xs) zero x h e = sym e
  at_get (y ∷ xs) (suc i) x h e = at_get xs i x (omega arith) e

  -- each place below the length has an item
  pub at_some : (xs : List A) (i : ℕ) → i < length xs → (x : A) × At xs i x
  at_some [] i h = absurd (omega arith)
  at_some (y ∷ xs) zero h = (y, refl)
  at_some (y ∷ xs) (suc i) h = at_some xs i (omega arith)

  pub once_more : (xs : List A) (x : A) → Once xs → (Has xs x → ⊥) → Once (xs ++ x ∷ [])
  once_more [] x o n = (λ h. h, tt)
  once_more (y ∷ xs) x o n = (λ h. elim (last_or xs x y h) [ inl a ↦ o.0 a | inr e ↦ n (inl (sym e)) ], once_more xs x o.1 (λ h. n (inr h)))
    where
      last_or : (ys : List A) (z w : A) → Has (ys ++ z ∷ []) w → Has ys w ⊎ (z ≡ w)
      last_or [] z w (inl e) = inr e
      last_or [] z w (inr e) = absurd e
      last_or (v ∷ ys) z w (inl e) = inl (inl e)
      last_or (v ∷ ys) z w (inr h) = elim (last_or ys z w h) [ inl a ↦ inl (inr a) | inr b ↦ inr b ]

module _ {A B : Type 0} (f : A → B) where
  pub at_map : (xs : List A) (i : ℕ) (x : A) → At xs i x → At (map f xs) i (f x)
  at_map [] i x h = absurd h
  at_map (y ∷ xs) zero x h = ap f h
  at_map (y ∷ xs) (suc i) x h = at_map xs i x h

  pub at_unmap : (xs : List A) (i : ℕ) (y : B) → At (map f xs) i y → (x : A) × At xs i x × (f x ≡ y)
  at_unmap [] i y h = absurd h
  at_unmap (x ∷ xs) zero y h = (x, refl, h)
  at_unmap (x ∷ xs) (suc i) y h = at_unmap xs i y h

  pub has_map : (xs : List A) (x : A) → Has xs x → Has (map f xs) (f x)
  has_map [] x h = absurd h
  has_map (y ∷ xs) x (inl e) = inl (ap f e)
  has_map (y ∷ xs) x (inr h) = inr (has_map xs x h)

  pub map_last : (xs : List A) (x : A) → map f (xs ++ x ∷ []) ≡ map f xs ++ f x ∷ []
  map_last [] x = refl
  map_last (y ∷ xs) x = ap (λ ys. f y ∷ ys) (map_last xs x)
