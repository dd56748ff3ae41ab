-- Two lists that are alike item by item.
use Rattle.std.proofs.Common.{◌≡◌, ◌<◌, ◌+◌, ℕ, List, [], ◌∷◌, ◌++◌, length, map, take, get_or, sym, ap, ◌∙◌, subst}
use Rattle.std.proofs.lemmas.List.{get_or-map, length-map, take_more}

module _ {A B : Type 0} (f : A → B) where
  one_more : (xs : List A) (i : ℕ) (x : A) → i < length xs → x ≡ get_or xs i x → take (i + 1) (map f xs) ≡ take i (map f xs) ++ f x ∷ []
  one_more xs i x below is =
      take_more (map f xs) i (f x) (subst (λ (n : ℕ). i < n) (sym (length-map xs f)) below) ∙ ap (λ z. take i (map f xs) ++ z ∷ []) (get_or-map f xs i x (f x) below ∙ ap f (sym is))

  pub alike_more : (xs ys : List A) (i : ℕ) (x y : A) → i < length xs → i < length ys → x ≡ get_or xs i x → y ≡ get_or ys i y → f y ≡ f x → take i (map f ys) ≡ take i (map f xs) → take (i + 1) (map f ys) ≡ take (i + 1) (map f xs)
  alike_more xs ys i x y below other first second same before =
      one_more ys i y other second ∙ ap (λ w. w ++ f y ∷ []) before ∙ ap (λ z. take i (map f xs) ++ z ∷ []) same ∙ sym (one_more xs i x below first)
