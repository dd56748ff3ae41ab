-- Members of lists, and what lists give.
use Rattle.std.proofs.Common.{◌≡◌, ℕ, zero, suc, ◌+◌, ◌*◌, ◌<◌, ◌≤◌, List, [], ◌∷◌, ◌++◌, length, drop, take, get_or, refl, sym, ap, ◌∙◌, subst, ◌⊎◌, inl, inr, arith, append_assoc, length-append}
use Rattle.std.proofs.lemmas.List.{take_more}
use Rattle.go_base.specs.Lists.{Has}
use Rattle.go_base.specs.Gathered.{gather}
use Rattle.go_selectors.specs.Search.{Twice}

module _ {A : Type 0} where
  pub has-left : (xs ys : List A) (x : A) → Has xs x → Has (xs ++ ys) x
  has-left [] ys x h = absurd h
  has-left (y ∷ xs) ys x (inl e) = inl e
  has-left (y ∷ xs) ys x (inr h) = inr (has-left xs ys x h)

  pub has-right : (xs ys : List A) (x : A) → Has ys x → Has (xs ++ ys) x
  has-right [] ys x h = h
  has-right (y ∷ xs) ys x h = inr (has-right xs ys x h)

  pub has-split : (xs ys : List A) (x : A) → Has (xs ++ ys) x → Has xs x ⊎ Has ys x
  has-split [] ys x h = inr h
  has-split (y ∷ xs) ys x (inl e) = inl (inl e)
  has-split (y ∷ xs) ys x (inr h) = elim (has-split xs ys x h) [ inl a ↦ inl (inr a) | inr b ↦ inr b ]

  pub has-last : (xs : List A) (x : A) → Has (xs ++ x ∷ []) x
  has-last xs x = has-right xs (x ∷ []) x (inl refl)

  pub has-back : (xs : List A) (y x : A) → Has (xs ++ y ∷ []) x → Has xs x ⊎ (y ≡ x)
  has-back xs y x h = elim (has-split xs (y ∷ []) x h) [ inl a ↦ inl a | inr b ↦ elim b [ inl e ↦ inr e | inr n ↦ absurd n ] ]

  has_at : (xs : List A) (i : ℕ) (d : A) → i < length xs → Has xs (get_or xs i d)
  has_at [] i d h = absurd (omega arith)
  has_at (x ∷ xs) zero d h = inl refl
  has_at (x ∷ xs) (suc i) d h = inr (has_at xs i d (omega arith))

  pub item_has : (xs : List A) (i : ℕ) (x : A) → i < length xs → x ≡ get_or xs i x → Has xs x
  item_has xs i x h e = subst (Has xs) (sym e) (has_at xs i x h)

  drop_suc : (i : ℕ) (xs : List A) (d : A) → i < length xs → drop i xs ≡ get_or xs i d ∷ drop (suc i) xs
  drop_suc i [] d h = absurd (omega arith)
  drop_suc zero (x ∷ xs) d h = refl
  drop_suc (suc i) (x ∷ xs) d h = drop_suc i xs d (omega arith)

  pub drop_next : (i : ℕ) (xs : List A) (x : A) → i < length xs → x ≡ get_or xs i x → drop i xs ≡ x ∷ drop (i + 1) xs
  drop_next i xs x h e = let s : suc i ≡ i + 1 = omega arith in drop_suc i xs x h ∙ ap (λ y. y ∷ drop (suc i) xs) (sym e) ∙ ap (λ n. x ∷ drop n xs) s

  pub taken_next : (xs : List A) (i : ℕ) (x : A) → i < length xs → x ≡ get_or xs i x → take (i + 1) xs ≡ take i xs ++ x ∷ []
  taken_next xs i x h e = take_more xs i x h ∙ ap (λ y. take i xs ++ y ∷ []) (sym e)

  pub drop_all : (n : ℕ) (xs : List A) → length xs ≤ n → drop n xs ≡ []
  drop_all zero [] h = refl
  drop_all zero (x ∷ xs) h = absurd (omega arith)
  drop_all (suc n) [] h = refl
  drop_all (suc n) (x ∷ xs) h = drop_all n xs (omega arith)

  pub has_none : (xs : List A) → ((x : A) → Has xs x → ⊥) → xs ≡ []
  has_none [] h = refl
  has_none (x ∷ xs) h = absurd (h x (inl refl))

  -- a list around a member
  around : (xs : List A) (x : A) → Has xs x → (before : List A) × (after : List A) × (xs ≡ before ++ x ∷ after)
  around [] x h = absurd h
  around (y ∷ xs) x (inl e) = ([], xs, ap (λ z. z ∷ xs) e)
  around (y ∷ xs) x (inr h) = let a = around xs x h in (y ∷ a.0, a.1, ap (λ zs. y ∷ zs) a.2)

  pub twice_last : (xs : List A) (x : A) → Has xs x → Twice (xs ++ x ∷ []) x
  twice_last xs x h = let a = around xs x h in record { before = a.0; between = a.1; after = []; is = ap (λ zs. zs ++ x ∷ []) a.2 ∙ append_assoc a.0 (x ∷ a.1) (x ∷ []) }

  pub twice_left : (xs ys : List A) (x : A) → Twice xs x → Twice (xs ++ ys) x
  twice_left xs ys x t = record { before = t.before; between = t.between; after = t.after ++ ys; is = ap (λ zs. zs ++ ys) t.is ∙ append_assoc t.before (x ∷ (t.between ++ x ∷ t.after)) ys ∙ ap (λ zs. t.before ++ x ∷ zs) (append_assoc t.between (x ∷ t.after) ys) }

  pub twice_has : (xs : List A) (x : A) → Twice xs x → Has xs x
  twice_has xs x t = subst (λ (zs : List A). Has zs x) (sym t.is) (has-right t.before (x ∷ (t.between ++ x ∷ t.after)) x (inl refl))

module _ {A B : Type 0} (f : A → List B) where
  pub gather-append : (xs ys : List A) → gather f (xs ++ ys) ≡ gather f xs ++ gather f ys
  gather-append [] ys = refl
  gather-append (x ∷ xs) ys = ap (λ w. f x ++ w) (gather-append xs ys) ∙ sym (append_assoc (f x) (gather f xs) (gather f ys))

  -- one more item of a list was added
  pub gather_next : (xs : List A) (i : ℕ) (x : A) (acc new whole : List B) → i < length xs → x ≡ get_or xs i x → acc ++ gather f (drop i xs) ≡ whole → new ≡ acc ++ f x → new ++ gather f (drop (i + 1) xs) ≡ whole
  gather_next xs i x acc new whole h e before step = ap (λ w. w ++ gather f (drop (i + 1) xs)) step ∙ append_assoc acc (f x) (gather f (drop (i + 1) xs)) ∙ ap (λ w. acc ++ gather f w) (sym (drop_next i xs x h e)) ∙ before

  pub gather-count : (xs ys : List A) → length (gather f (xs ++ ys)) ≡ length (gather f xs) + length (gather f ys)
  gather-count xs ys = ap length (gather-append xs ys) ∙ length-append (gather f xs) (gather f ys)

  pub gather_of : (xs : List A) (y : B) → Has (gather f xs) y → (x : A) × Has xs x × Has (f x) y
  gather_of [] y h = absurd h
  gather_of (x ∷ xs) y h = elim (has-split (f x) (gather f xs) y h) [ inl a ↦ (x, inl refl, a) | inr b ↦ (let k = gather_of xs y b in (k.0, inr k.1, k.2)) ]

  pub gather_has : (xs : List A) (x : A) (y : B) → Has xs x → Has (f x) y → Has (gather f xs) y
  gather_has [] x y m h = absurd m
  gather_has (z ∷ xs) x y (inl e) h = has-left (f z) (gather f xs) y (subst (λ (w : A). Has (f w) y) (sym e) h)
  gather_has (z ∷ xs) x y (inr k) h = has-right (f z) (gather f xs) y (gather_has xs x y k h)

  -- what stands twice gives twice
  pub twice_gives : (xs : List A) (x : A) → Twice xs x → 2 * length (f x) ≤ length (gather f xs)
  twice_gives xs x t =
      let a = ap (λ zs. length (gather f zs)) t.is in
      let b = gather-count t.before (x ∷ (t.between ++ x ∷ t.after)) in
      let c = length-append (f x) (gather f (t.between ++ x ∷ t.after)) in
      let d = gather-count t.between (x ∷ t.after) in
      let e = length-append (f x) (gather f t.after) in
      omega (arith, a, b, c, d, e)
