-- The parts of a canonical order.
use Rattle.std.proofs.Common.{◌≡◌, ℕ, zero, suc, ◌+◌, ◌<◌, ◌≤◌, List, [], ◌∷◌, ◌++◌, length, take, get_or, refl, sym, ap, ◌∙◌, subst, inl, inr, arith, length-append}
use Rattle.std.proofs.lemmas.List.{take_more}
use Rattle.go_base.specs.Lists.{Has, Once}
use Rattle.go_base.proofs.Lists.{take_past}
use Rattle.go_imports.specs.Orders.{IsOrder, none, next, IsNext}
use Rattle.go_imports.proofs.Members.{has_back, below_or}
use Rattle.go_imports.proofs.Pigeonholes.{short, once_last}

head_same : (x y : ℕ) (xs ys : List ℕ) → x ∷ xs ≡ y ∷ ys → (x ≡ y) × (xs ≡ ys)
head_same x y xs ys e = (cc, cc)

no_last : (xs : List ℕ) (n : ℕ) → [] ≡ xs ++ n ∷ [] → ⊥
no_last [] n e = absurd (cc)
no_last (x ∷ xs) n e = absurd (cc)

last_same : (xs ys : List ℕ) (n m : ℕ) → xs ++ n ∷ [] ≡ ys ++ m ∷ [] → (xs ≡ ys) × (n ≡ m)
last_same [] [] n m e = (refl, (head_same n m [] [] e).0)
last_same [] (y ∷ ys) n m e = absurd (no_last ys m (head_same n y [] (ys ++ m ∷ []) e).1)
last_same (x ∷ xs) [] n m e = absurd (no_last xs n (sym (head_same x m (xs ++ n ∷ []) [] e).1))
last_same (x ∷ xs) (y ∷ ys) n m e =
    let h = head_same x y (xs ++ n ∷ []) (ys ++ m ∷ []) e in
    let r = last_same xs ys n m h.1 in
    ((λ i. h.0 i ∷ r.0 i), r.1)

take_front : (k : ℕ) (xs ys : List ℕ) → k ≤ length xs → take k (xs ++ ys) ≡ take k xs
take_front zero xs ys h = refl
take_front (suc k) [] ys h = absurd (omega (arith, h))
take_front (suc k) (x ∷ xs) ys h = ap (λ (zs : List ℕ). x ∷ zs) (take_front k xs ys (omega (arith, h)))

take_none : (k : ℕ) → ◌≡◌ {A = List ℕ} (take k []) []
take_none zero = refl
take_none (suc k) = refl

module _ (graph : List (List ℕ)) where
  order_front : {xs : List ℕ} → IsOrder graph xs → (k : ℕ) → IsOrder graph (take k xs)
  order_front none k = subst (IsOrder graph) (sym (take_none k)) none
  order_front (next {standing = s} {n = n} o i) k = elim (below_or (length s) k) [
    | inl more ↦ subst (IsOrder graph) (sym (take_past k (s ++ n ∷ []) (omega (arith, more, length-append s (n ∷ []))))) (next o i)
    | inr within ↦ subst (IsOrder graph) (sym (take_front k s (n ∷ []) within)) (order_front o k)
  ]

  order_last : {xs : List ℕ} → IsOrder graph xs → (s : List ℕ) (n : ℕ) → xs ≡ s ++ n ∷ [] → IsNext graph s n
  order_last none s n e = absurd (no_last s n e)
  order_last (next {standing = t} {n = m} o i) s n e =
      let p = last_same t s m n e in
      subst (λ (q : List ℕ × ℕ). IsNext graph q.0 q.1) (λ j. (p.0 j, p.1 j)) i

  -- what stands at a place of the order is next after what stands before it
  pub next_at : (order : List ℕ) (at n : ℕ) → IsOrder graph order → at < length order → n ≡ get_or order at n → IsNext graph (take at order) n
  next_at order at n o h is = order_last (order_front o (at + 1)) (take at order) n (take_more order at n h ∙ ap (λ (m : ℕ). take at order ++ m ∷ []) (sym is))

  pub order_below : {xs : List ℕ} → IsOrder graph xs → (n : ℕ) → Has xs n → n < length graph
  order_below none n h = absurd h
  order_below (next {standing = s} {n = m} o i) n h = elim (has_back s m n h) [ inl k ↦ order_below o n k | inr e ↦ subst (λ (k : ℕ). k < length graph) e i.ready.is ]

  order_once : {xs : List ℕ} → IsOrder graph xs → Once xs
  order_once none = tt
  order_once (next {standing = s} {n = n} o i) = once_last s n (order_once o) i.ready.fresh

  -- an order is no longer than there are packages
  pub order_short : {xs : List ℕ} → IsOrder graph xs → length xs ≤ length graph
  order_short {xs = xs} o = short (length graph) xs (order_once o) (order_below o)

  front_has : (xs : List ℕ) (k n : ℕ) → Has (take k xs) n → Has xs n
  front_has [] zero n h = h
  front_has [] (suc k) n h = h
  front_has (x ∷ xs) zero n h = absurd h
  front_has (x ∷ xs) (suc k) n (inl e) = inl e
  front_has (x ∷ xs) (suc k) n (inr h) = inr (front_has xs k n h)

  pub front_below : (order : List ℕ) (at n : ℕ) → IsOrder graph order → Has (take at order) n → n < length graph
  front_below order at n o h = order_below o n (front_has order at n h)
