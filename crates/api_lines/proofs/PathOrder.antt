-- Texts that differ at one place, or of which one begins with another path.
use Rattle.std.proofs.Common.{◌≡◌, ℕ, suc, ◌<◌, ◌≤◌, List, ◌∷◌, ◌++◌, length, take, drop, get_or, refl, sym, ap, ◌∙◌, arith, append_assoc, Option, None, Some}
use Rattle.std.specs.Prelude.{IfSome, codes}
use Rattle.std.specs.Ordering.{ordering_then, ordering_reverse}
use Rattle.std.specs.Cmp.{nat_cmp_is}
use Rattle.std.specs.declared.cmp.Ordering.{Ordering}
use Rattle.std.specs.declared.cmp.Ordering.TheVariants.{Less, Greater}
use Rattle.go_base.proofs.Lists.{split_at, take_past}
use Rattle.go_model.specs.declared.files.platform.Platform.{Platform}
use Rattle.api_lines.specs.Lines.{context_text}
use Rattle.go_model.specs.files.Platforms.{name_of}
use Rattle.std.specs.Cmp.Lexicographic.{nat_list_cmp_total}
use Rattle.api_lines.proofs.LineOrder.{same_front}
use Rattle.api_lines.proofs.TextSets.{order}

-- the first byte that differs decides
below_there : (f r s : List ℕ) (a b : ℕ) → a < b → order (f ++ a ∷ r) (f ++ b ∷ s) ≡ Less
below_there f r s a b h = same_front f (a ∷ r) (b ∷ s) ∙ ap (λ o. ordering_then o (order r s)) (sym (nat_cmp_is a b Less h))

-- what follows the path of a line
abbrev tail : Option Platform → List ℕ → List ℕ
tail c x = context_text c ++ (codes ", " ++ x)

text_is : (p : List ℕ) (c : Option Platform) (x : List ℕ) → p ++ context_text c ++ codes ", " ++ x ≡ p ++ tail c x
text_is p c x = append_assoc (p ++ context_text c) (codes ", ") x ∙ append_assoc p (context_text c) (codes ", " ++ x)

-- a text of which the byte at a place is told
from_place : (i : ℕ) (p t : List ℕ) → i < length p → p ++ t ≡ take i p ++ get_or p i 0 ∷ (drop (suc i) p ++ t)
from_place i p t h = ap (λ w. w ++ t) (split_at i p 0 (get_or p i 0) h refl) ∙ append_assoc (take i p) (get_or p i 0 ∷ drop (suc i) p) t

closed_is : (p x : List ℕ) → p ++ codes ")" ++ x ≡ p ++ (codes ")" ++ x)
closed_is p x = append_assoc p (codes ")") x

module _ (p q : List ℕ) (i : ℕ) (e : take i p ≡ take i q) where
  -- two texts differ at a place
  below : i < length p → i < length q → get_or p i 0 < get_or q i 0 → (s t : List ℕ) → order (p ++ s) (q ++ t) ≡ Less
  below h k less s t =
      let f = from_place i q t k ∙ ap (λ w. w ++ get_or q i 0 ∷ (drop (suc i) q ++ t)) (sym e) in
      (λ j. order (from_place i p s h j) (f j)) ∙ below_there (take i p) (drop (suc i) p ++ s) (drop (suc i) q ++ t) (get_or p i 0) (get_or q i 0) less

  -- the other one begins with the first one, where a byte above the next one follows
  shorter : length p ≤ i → i ≤ length p → length p < length q → (b : ℕ) (s t : List ℕ) → b < get_or q (length p) 0 → order (p ++ b ∷ s) (q ++ t) ≡ Less
  shorter low high h b s t less =
      let n : i ≡ length p = omega arith in
      let f : take (length p) q ≡ p = ap (λ m. take m q) (sym n) ∙ sym e ∙ take_past i p low in
      let g = from_place (length p) q t h ∙ ap (λ w. w ++ get_or q (length p) 0 ∷ (drop (suc (length p)) q ++ t)) f in
      (λ j. order (p ++ b ∷ s) (g j)) ∙ below_there p s (drop (suc (length p)) q ++ t) b (get_or q (length p) 0) less

  -- the paths differ at a place
  pub path_below : i < length p → i < length q → get_or p i 0 < get_or q i 0 → (c d : Option Platform) (x y : List ℕ) → order (p ++ context_text c ++ codes ", " ++ x) (q ++ context_text d ++ codes ", " ++ y) ≡ Less
  path_below h k less c d x y = (λ j. order (text_is p c x j) (text_is q d y j)) ∙ below h k less (tail c x) (tail d y)

  before_path : length p ≤ i → i ≤ length p → length p < length q → 44 < get_or q (length p) 0 → (c : Option Platform) (x t : List ℕ) → order (p ++ tail c x) (q ++ t) ≡ Less
  before_path low high h less None x t = shorter low high h 44 (32 ∷ x) t less
  before_path low high h less (Some a) x t = shorter low high h 32 (40 ∷ (name_of a ++ codes ")") ++ (codes ", " ++ x)) t (omega (arith, less))

  -- the other path begins with the first one, where a byte above the comma follows
  pub path_shorter : length p ≤ i → i ≤ length p → length p < length q → 44 < get_or q (length p) 0 → (c d : Option Platform) (x y : List ℕ) → order (p ++ context_text c ++ codes ", " ++ x) (q ++ context_text d ++ codes ", " ++ y) ≡ Less
  path_shorter low high h less c d x y = (λ j. order (text_is p c x j) (text_is q d y j)) ∙ before_path low high h less c x (tail d y)

  -- the names differ at a place
  pub name_below : i < length p → i < length q → get_or p i 0 < get_or q i 0 → (x y : List ℕ) → order (p ++ codes ")" ++ x) (q ++ codes ")" ++ y) ≡ Less
  name_below h k less x y = (λ j. order (closed_is p x j) (closed_is q y j)) ∙ below h k less (codes ")" ++ x) (codes ")" ++ y)

  -- the other name begins with the first one, where a byte above the parenthesis follows
  pub name_shorter : length p ≤ i → i ≤ length p → length p < length q → 41 < get_or q (length p) 0 → (x y : List ℕ) → order (p ++ codes ")" ++ x) (q ++ codes ")" ++ y) ≡ Less
  name_shorter low high h less x y = (λ j. order (closed_is p x j) (closed_is q y j)) ∙ shorter low high h 41 x (codes ")" ++ y) less

module _ (p q : List ℕ) (e : p ≡ q) (c d : Option Platform) (x y : List ℕ) where
  in_package : order (tail c x) (tail d y) ≡ order (p ++ context_text c ++ codes ", " ++ x) (q ++ context_text d ++ codes ", " ++ y)
  in_package = sym (same_front p (tail c x) (tail d y)) ∙ (λ j. order (sym (text_is p c x) j) (e j ++ tail d y)) ∙ (λ j. order (p ++ context_text c ++ codes ", " ++ x) (sym (text_is q d y) j))

  pub both_plain : c ≡ None → d ≡ None → order x y ≡ order (p ++ context_text c ++ codes ", " ++ x) (q ++ context_text d ++ codes ", " ++ y)
  both_plain f g = sym (same_front (codes ", ") x y) ∙ (λ j. order (tail (sym f j) x) (tail (sym g j) y)) ∙ in_package

  pub first_plain : (a : Platform) → c ≡ None → d ≡ Some a → Greater ≡ order (p ++ context_text c ++ codes ", " ++ x) (q ++ context_text d ++ codes ", " ++ y)
  first_plain a f g = (λ j. order (tail (sym f j) x) (tail (sym g j) y)) ∙ in_package

  pub second_plain : (a : Platform) → c ≡ Some a → d ≡ None → Less ≡ order (p ++ context_text c ++ codes ", " ++ x) (q ++ context_text d ++ codes ", " ++ y)
  second_plain a f g = (λ j. order (tail (sym f j) x) (tail (sym g j) y)) ∙ in_package

  pub both_on : (a : Platform) → c ≡ Some a → d ≡ Some a → order x y ≡ order (p ++ context_text c ++ codes ", " ++ x) (q ++ context_text d ++ codes ", " ++ y)
  both_on a f g =
      sym (same_front (context_text (Some a)) (codes ", " ++ x) (codes ", " ++ y) ∙ same_front (codes ", ") x y) ∙ (λ j. order (tail (sym f j) x) (tail (sym g j) y)) ∙ in_package

  -- the names of the platforms decide, where their order is told
  pub by_names : (a b : Platform) (told : Option Ordering) → c ≡ Some a → d ≡ Some b → IfSome told (λ o. (u v : List ℕ) → o ≡ order (name_of a ++ codes ")" ++ u) (name_of b ++ codes ")" ++ v))
      → IfSome told (λ o. o ≡ order (p ++ context_text c ++ codes ", " ++ x) (q ++ context_text d ++ codes ", " ++ y))
  by_names a b None f g k = tt
  by_names a b (Some o) f g k =
      k (codes ", " ++ x) (codes ", " ++ y) ∙ sym (same_front (codes " (") (name_of a ++ codes ")" ++ (codes ", " ++ x)) (name_of b ++ codes ")" ++ (codes ", " ++ y)))
      ∙ (λ j. order (tail (sym f j) x) (tail (sym g j) y)) ∙ in_package

-- the other one comes before
pub turned_texts : (s t : List ℕ) → order t s ≡ Less → Greater ≡ order s t
turned_texts s t less = sym (nat_list_cmp_total.antisymm s t ∙ ap ordering_reverse less)

-- the other path comes before
pub turned : (p q q' p' : List ℕ) → q' ≡ q → p' ≡ p → (c d : Option Platform) (x y : List ℕ) → order (q' ++ context_text d ++ codes ", " ++ y) (p' ++ context_text c ++ codes ", " ++ x) ≡ Less
    → Greater ≡ order (p ++ context_text c ++ codes ", " ++ x) (q ++ context_text d ++ codes ", " ++ y)
turned p q q' p' e f c d x y less =
    let back : order (q ++ context_text d ++ codes ", " ++ y) (p ++ context_text c ++ codes ", " ++ x) ≡ Less = (λ j. order (sym e j ++ context_text d ++ codes ", " ++ y) (sym f j ++ context_text c ++ codes ", " ++ x)) ∙ less in
    turned_texts (p ++ context_text c ++ codes ", " ++ x) (q ++ context_text d ++ codes ", " ++ y) back
