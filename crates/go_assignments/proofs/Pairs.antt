-- A walk over two lists decides whether a fact holds of the items place by place.
use Rattle.std.proofs.Common.{◌≡◌, ◌<◌, ◌≤◌, ◌+◌, ℕ, zero, suc, Bool, true, false, List, [], ◌∷◌, ◌++◌, length, take, get_or, refl, sym, ap, subst, arith}
use Rattle.std.proofs.lemmas.List.{take_all}
use Rattle.std.specs.List.{AllZip}
use Rattle.go_selectors.specs.Answers.{Decides}
use Rattle.go_selectors.proofs.Lists.{taken_next}

module _ {A B : Type 0} (P : A → B → Type 0) where
  pairs_last : (xs : List A) (ys : List B) (x : A) (y : B) → AllZip P xs ys → P x y → AllZip P (xs ++ x ∷ []) (ys ++ y ∷ [])
  pairs_last [] [] x y h p = (p, tt)
  pairs_last (a ∷ xs) (b ∷ ys) x y h p = (h.0, pairs_last xs ys x y h.1 p)
  pairs_last [] (b ∷ ys) x y h p = absurd h
  pairs_last (a ∷ xs) [] x y h p = absurd h

  pair_at : (xs : List A) (ys : List B) (i : ℕ) (d : A) (e : B) → i < length xs → AllZip P xs ys → P (get_or xs i d) (get_or ys i e)
  pair_at [] ys i d e l h = absurd (omega arith)
  pair_at (x ∷ xs) [] i d e l h = absurd h
  pair_at (x ∷ xs) (y ∷ ys) zero d e l h = h.0
  pair_at (x ∷ xs) (y ∷ ys) (suc i) d e l h = pair_at xs ys i d e (omega arith) h.1

  pub pairs_lengths : (xs : List A) (ys : List B) → AllZip P xs ys → length xs ≡ length ys
  pairs_lengths [] [] h = refl
  pairs_lengths (x ∷ xs) (y ∷ ys) h = ap suc (pairs_lengths xs ys h.1)
  pairs_lengths [] (y ∷ ys) h = absurd h
  pairs_lengths (x ∷ xs) [] h = absurd h

  pub pairs_whole : (xs : List A) (ys : List B) (i : ℕ) → length xs ≤ i → length xs ≡ length ys → AllZip P (take i xs) (take i ys) → AllZip P xs ys
  pairs_whole xs ys i h same all = subst (λ z. AllZip P z ys) (take_all i xs h) (subst (AllZip P (take i xs)) (take_all i ys (omega (arith, h, same))) all)

  module _ (xs : List A) (ys : List B) (i : ℕ) (x : A) (y : B) (answer : Bool) (h : i < length xs) (same : length xs ≡ length ys) (e : x ≡ get_or xs i x) (f : y ≡ get_or ys i y) where
    pub pairs_lack : answer ≡ false → Decides answer (P x y) → AllZip P xs ys → ⊥
    pairs_lack g d all = (subst (λ b. Decides b (P x y)) g d) (subst (λ z. P z y) (sym e) (subst (P (get_or xs i x)) (sym f) (pair_at xs ys i x y h all)))

    pub pairs_next : answer ≡ true → Decides answer (P x y) → AllZip P (take i xs) (take i ys) → AllZip P (take (i + 1) xs) (take (i + 1) ys)
    pairs_next g d all =
        subst (λ z. AllZip P z (take (i + 1) ys)) (sym (taken_next xs i x h e))
        (subst (AllZip P (take i xs ++ x ∷ [])) (sym (taken_next ys i y (omega arith) f)) (pairs_last (take i xs) (take i ys) x y all (subst (λ b. Decides b (P x y)) g d)))
