-- Listings of lines with one property have the same texts.
use Rattle.std.proofs.Common.{◌≡◌, ℕ, List, [], ◌∷◌, map, refl, subst, inl, inr}
use Rattle.api_judge.proofs.SortedTexts.{same_lists}
use Rattle.api_lines.proofs.OrderedTexts.{has_map, map_has}
use Rattle.api_lines.specs.Lines.{HasText, IsListing, printed}
use Rattle.api_lines.specs.declared.line.Line.{Line}
use Rattle.api_shared_features.proofs.PlainLines.{IsSimple, one_line}
use Rattle.go_base.specs.Lists.{Has}

-- a text that one of the lines has is among their texts
pub text_in : (lines : List Line) (text : List ℕ) → HasText lines text → Has (map printed lines) text
text_in lines text h = subst (Has (map printed lines)) h.2 (has_map printed lines h.0 h.1)

module _ (P : Line → Type 0) where
  covered : (xs ys : List Line) → IsListing P xs → IsListing P ys → (text : List ℕ) → Has (map printed xs) text → Has (map printed ys) text
  covered xs ys a b text h =
      let k = map_has printed xs text h in
      text_in ys text (subst (HasText ys) k.2 (b.complete k.0 (a.sound k.0 k.1)))

  pub same_texts : (xs ys : List Line) → IsListing P xs → IsListing P ys → map printed xs ≡ map printed ys
  same_texts xs ys a b = same_lists (map printed xs) (map printed ys) a.ordered b.ordered (covered xs ys a b) (covered ys xs b a)

  by_texts : (xs ys : List Line) → map printed xs ≡ map printed ys → ((l : Line) → Has xs l → IsSimple l) → ((l : Line) → Has ys l → IsSimple l) → xs ≡ ys
  by_texts [] [] e f g = refl
  by_texts [] (y ∷ ys) e f g = absurd (cc)
  by_texts (x ∷ xs) [] e f g = absurd (cc)
  by_texts (x ∷ xs) (y ∷ ys) e f g =
      let first : x ≡ y = one_line x y (f x (inl refl)) (g y (inl refl)) (let h : printed x ≡ printed y = cc in h) in
      let rest : xs ≡ ys = by_texts xs ys (let h : map printed xs ≡ map printed ys = cc in h) (λ l h. f l (inr h)) (λ l h. g l (inr h)) in
      (λ i. first i ∷ rest i)

  -- and where their lines are simple, they are one
  pub same_lines : ((l : Line) → P l → IsSimple l) → (xs ys : List Line) → IsListing P xs → IsListing P ys → xs ≡ ys
  same_lines simple xs ys a b = by_texts xs ys (same_texts xs ys a b) (λ l h. simple l (a.sound l h)) (λ l h. simple l (b.sound l h))
