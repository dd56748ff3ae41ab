-- Lists that follow from others, item by item.
use Rattle.std.proofs.Common.{◌≡◌, ◌⊎◌, ℕ, ◌+◌, ◌<◌, ◌≤◌, Option, Some, None, List, [], ◌∷◌, ◌++◌, length, take, get_or, reverse, refl, sym, ap, ◌∙◌, subst, inl, inr, arith, append_assoc, length-append}
use Rattle.std.proofs.lemmas.List.{take_more, reverse-append, reverse-reverse, append-nil}
use Rattle.go_base.specs.Lists.{Has}
use Rattle.go_base.proofs.Lists.{take_past}
use Rattle.go_imports.specs.Gives.{Gives, none, next, optional}
use Rattle.go_imports.proofs.Members.{has_left, has_back}

module _ {A B : Type 0} (R : A → Option B → Type 0) where
  pub gives_first : (xs : List A) (ys : List B) → ys ≡ [] → Gives R (take 0 xs) ys
  gives_first xs ys e = subst (Gives R []) (sym e) none

  -- one item more
  pub gives_more : (xs : List A) (i : ℕ) (x : A) (r : Option B) (ys zs : List B) → i < length xs → x ≡ get_or xs i x → R x r → zs ≡ ys ++ optional r → Gives R (take i xs) ys → Gives R (take (i + 1) xs) zs
  gives_more xs i x r ys zs h is k e g =
      subst (λ (p : List A × List B). Gives R p.0 p.1) (λ j. (sym (take_more xs i x h ∙ ap (λ (z : A). take i xs ++ z ∷ []) (sym is)) j, sym e j)) (next x r g k)

  pub gives_whole : (xs : List A) (i : ℕ) (ys : List B) → length xs ≤ i → Gives R (take i xs) ys → Gives R xs ys
  gives_whole xs i ys h g = subst (λ (zs : List A). Gives R zs ys) (take_past i xs h) g

  -- a list is used up from its end, and so the one that it is the reverse of from its front
  pub record Popping (all rest : List A) (ys : List B) : Type 0 where
    pub done : List A
    pub parts : all ≡ done ++ reverse rest
    pub given : Gives R done ys

  pub popping_first : (all rest : List A) (ys : List B) → rest ≡ reverse all → ys ≡ [] → Popping all rest ys
  popping_first all rest ys e f = record { done = []; parts = sym (reverse-reverse all) ∙ ap reverse (sym e); given = subst (Gives R []) (sym f) none }

  pub popping_next : (all rest more : List A) (x : A) (r : Option B) (ys zs : List B) → rest ≡ more ++ x ∷ [] → R x r → zs ≡ ys ++ optional r → Popping all rest ys → Popping all more zs
  popping_next all rest more x r ys zs e k f p = record {
    done = p.done ++ x ∷ [];
    parts = p.parts ∙ ap (λ (w : List A). p.done ++ w) (ap reverse e ∙ reverse-append more (x ∷ [])) ∙ sym (append_assoc p.done (x ∷ []) (reverse more));
    given = subst (Gives R (p.done ++ x ∷ [])) (sym f) (next x r p.given k);
  }

  pub popping_last : (all rest : List A) (ys : List B) → rest ≡ [] → Popping all rest ys → Gives R all ys
  popping_last all rest ys e p = subst (λ (w : List A). Gives R w ys) (sym (p.parts ∙ ap (λ (w : List A). p.done ++ reverse w) e ∙ append-nil p.done)) p.given

  optional_has : (y : B) (r : Option B) → Has (optional r) y → r ≡ Some y
  optional_has y None h = absurd h
  optional_has y (Some z) (inl e) = ap (λ (w : B). Some w) e
  optional_has y (Some z) (inr h) = absurd h

  has_apart : (ys zs : List B) (y : B) → Has (ys ++ zs) y → Has ys y ⊎ Has zs y
  has_apart [] zs y h = inr h
  has_apart (w ∷ ys) zs y (inl e) = inl (inl e)
  has_apart (w ∷ ys) zs y (inr h) = elim (has_apart ys zs y h) [ inl k ↦ inl (inr k) | inr k ↦ inr k ]

  has_right : (ys zs : List B) (y : B) → Has zs y → Has (ys ++ zs) y
  has_right [] zs y h = h
  has_right (w ∷ ys) zs y h = inr (has_right ys zs y h)

  -- what is given is given by some item
  pub given_by : {xs : List A} {ys : List B} → Gives R xs ys → (y : B) → Has ys y → (x : A) × Has xs x × R x (Some y)
  given_by none y h = absurd h
  given_by (next {xs = xs} {ys = ys} x r g k) y h = elim (has_apart ys (optional r) y h) [
    | inl old ↦ (let p = given_by g y old in (p.0, has_left xs (x ∷ []) p.0 p.1, p.2))
    | inr new ↦ (x, last xs x, subst (R x) (optional_has y r new) k)
  ]
    where
      last : (xs : List A) (x : A) → Has (xs ++ x ∷ []) x
      last [] x = inl refl
      last (z ∷ xs) x = inr (last xs x)

  -- what an item gives, and where it stands
  abbrev pub GivenIn : A → List B → Type 0
  GivenIn x ys = R x None ⊎ ((y : B) × Has ys y × R x (Some y))

  given_left : (x : A) (ys zs : List B) → GivenIn x ys → GivenIn x (ys ++ zs)
  given_left x ys zs (inl n) = inl n
  given_left x ys zs (inr p) = inr (p.0, has_left ys zs p.0 p.1, p.2)

  given_last : (x : A) (ys : List B) (r : Option B) → R x r → GivenIn x (ys ++ optional r)
  given_last x ys None k = inl k
  given_last x ys (Some y) k = inr (y, has_right ys (y ∷ []) y (inl refl), k)

  -- each item gives what it gives
  pub gives_all : {xs : List A} {ys : List B} → Gives R xs ys → (x : A) → Has xs x → GivenIn x ys
  gives_all none x h = absurd h
  gives_all (next {xs = xs} {ys = ys} a r g k) x h = elim (has_back xs a x h) [
    | inl old ↦ given_left x ys (optional r) (gives_all g x old)
    | inr e ↦ given_last x ys r (subst (λ (w : A). R w r) e k)
  ]

  optional_short : (r : Option B) → length (optional r) ≤ 1
  optional_short None = omega arith
  optional_short (Some y) = omega arith

  pub gives_fewer : {xs : List A} {ys : List B} → Gives R xs ys → length ys ≤ length xs
  gives_fewer none = omega arith
  gives_fewer (next {xs = xs} {ys = ys} x r g k) =
      let s = optional_short r in
      let l = gives_fewer g in
      omega (arith, length-append ys (optional r), length-append xs (x ∷ []))

  optional_one : (x : A) (r : Option B) → (R x None → ⊥) → R x r → length (optional r) ≡ 1
  optional_one x None never k = absurd (never k)
  optional_one x (Some y) never k = refl

  -- where each item gives one, the lists are of one length
  pub gives_as_many : {xs : List A} {ys : List B} → ((x : A) → R x None → ⊥) → Gives R xs ys → length ys ≡ length xs
  gives_as_many never none = refl
  gives_as_many never (next {xs = xs} {ys = ys} x r g k) =
      let s = optional_one x r (never x) k in
      let l = gives_as_many never g in
      omega (arith, length-append ys (optional r), length-append xs (x ∷ []))
