-- Two lists that agree item by item.
use Rattle.std.proofs.Common.{◌≡◌, ◌<◌, ◌≤◌, ◌+◌, ℕ, zero, suc, Bool, true, false, List, [], ◌∷◌, ◌++◌, length, map, take, get_or, refl, sym, ap, ◌∙◌, subst, arith}
use Rattle.std.specs.Prelude.{◌↔◌, IsTrue}
use Rattle.api_correspond.specs.inner.Tables.{At}
use Rattle.api_correspond.proofs.Places.{at_same, at_map, at_get}

take_at : {A : Type 0} (xs : List A) (i : ℕ) (x : A) → At xs i x → take (suc i) xs ≡ take i xs ++ x ∷ []
take_at [] i x h = absurd h
take_at (y ∷ xs) zero x h = ap (λ z. z ∷ []) h
take_at (y ∷ xs) (suc i) x h = ap (λ ys. y ∷ ys) (take_at xs i x h)

module _ {A B : Type 0} (f : A → B) (xs ys : List A) (same_length : length xs ≡ length ys) (i : ℕ) (x y : A) (below : i < length xs) (first : x ≡ get_or xs i x) (second : y ≡ get_or ys i y) where
  at_first : At (map f xs) i (f x)
  at_first = at_map f xs i x (at_get xs i x below first)

  at_second : At (map f ys) i (f y)
  at_second = at_map f ys i y (at_get ys i y (omega (arith, same_length)) second)

  pub heads_apart : (r : Bool) → (IsTrue r ↔ (f x ≡ f y)) → r ≡ false → map f xs ≡ map f ys → IsTrue false
  heads_apart r d e m = subst IsTrue e (d.1 (at_same (map f ys) i (f x) (f y) (subst (λ (w : List B). At w i (f x)) m at_first) at_second))

  pub heads_more : (r : Bool) → (IsTrue r ↔ (f x ≡ f y)) → r ≡ true → take i (map f xs) ≡ take i (map f ys) → take (i + 1) (map f xs) ≡ take (i + 1) (map f ys)
  heads_more r d e m =
      let s : f x ≡ f y = d.0 e in
      let n : suc i ≡ i + 1 = omega arith in
      subst (λ (j : ℕ). take j (map f xs) ≡ take j (map f ys)) n (take_at (map f xs) i (f x) at_first ∙ ap (λ w. w ++ f x ∷ []) m ∙ ap (λ z. take i (map f ys) ++ z ∷ []) s ∙ sym (take_at (map f ys) i (f y) at_second))
