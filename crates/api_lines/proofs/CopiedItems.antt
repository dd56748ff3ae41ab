-- Lists that are copied item by item.
use Rattle.std.proofs.Common.{◌≡◌, ◌<◌, ◌≤◌, ◌+◌, ℕ, List, [], ◌∷◌, ◌++◌, length, get_or, take, sym, ◌∙◌}
use Rattle.std.proofs.lemmas.List.{take_more}
use Rattle.go_base.proofs.Lists.{take_past}

module _ {A : Type 0} (xs : List A) (i : ℕ) where
  pub copied_next : (x y : A) (ys new : List A) → i < length xs → x ≡ get_or xs i x → y ≡ x → new ≡ ys ++ y ∷ [] → ys ≡ take i xs → new ≡ take (i + 1) xs
  copied_next x y ys new h is same e f = e ∙ (λ n. f n ++ (same ∙ is) n ∷ []) ∙ sym (take_more xs i x h)

  pub copied_all : (ys : List A) → length xs ≤ i → ys ≡ take i xs → ys ≡ xs
  copied_all ys h f = f ∙ take_past i xs h
