-- Lines that have one text, and lists of them.
use Rattle.std.proofs.Common.{◌≡◌, ℕ, Bool, true, false, zero, suc, ◌<◌, arith, List, [], ◌∷◌, ◌++◌, length, map, drop, get_or, refl, sym, ap, ◌∙◌, Option, None, codes}
use Rattle.std.specs.Prelude.{Decides, bytes_eq}
use Rattle.std.specs.Cmp.Lexicographic.{bytes_decides}
use Rattle.api_judge.specs.inner.Shapes.{AreAlike}
use Rattle.api_lines.proofs.PlainTexts.{plain_text}
use Rattle.api_lines.specs.Lines.{printed}
use Rattle.api_lines.specs.declared.line.Line.{Line}

-- of texts whose first parts are equally long, each part is the same
parts_same : (xs ys rs ss : List ℕ) → length xs ≡ length ys → xs ++ rs ≡ ys ++ ss → (xs ≡ ys) × (rs ≡ ss)
parts_same [] [] rs ss n e = (refl, e)
parts_same [] (y ∷ ys) rs ss n e = absurd (omega arith)
parts_same (x ∷ xs) [] rs ss n e = absurd (omega arith)
parts_same (x ∷ xs) (y ∷ ys) rs ss n e =
    let first : x ≡ y = cc in
    let k = parts_same xs ys rs ss (omega arith) (let s : xs ++ rs ≡ ys ++ ss = cc in s) in
    ((λ i. first i ∷ k.0 i), k.1)

pub one_text : (a b : Line) → AreAlike a b → a.path ≡ b.path → a.rest ≡ b.rest → printed a ≡ printed b
one_text a b alike p r = plain_text a alike.first ∙ (λ i. codes "pkg " ++ (p i ++ 44 ∷ 32 ∷ r i)) ∙ sym (plain_text b alike.second)

pub one_parts : (a b : Line) → AreAlike a b → printed a ≡ printed b → (a.path ≡ b.path) × (a.rest ≡ b.rest)
one_parts a b alike e =
    let k = parts_same a.path b.path (44 ∷ 32 ∷ a.rest) (44 ∷ 32 ∷ b.rest) alike.paths (ap (drop 4) (sym (plain_text a alike.first) ∙ e ∙ plain_text b alike.second)) in
    (k.0, ap (drop 2) k.1)

pub other_path : (a b : Line) (p : Bool) → AreAlike a b → p ≡ bytes_eq a.path b.path → p ≡ false → Decides false (printed a ≡ printed b)
other_path a b p alike is apart = ((λ e. absurd (cc)), (λ e. sym apart ∙ is ∙ (bytes_decides a.path b.path).1 (one_parts a b alike e).0))

pub one_path : (a b : Line) (p r : Bool) → AreAlike a b → p ≡ bytes_eq a.path b.path → p ≡ true → r ≡ bytes_eq a.rest b.rest → Decides r (printed a ≡ printed b)
one_path a b p r alike is same rests = (
  (λ e. one_text a b alike ((bytes_decides a.path b.path).0 (sym is ∙ same)) ((bytes_decides a.rest b.rest).0 (sym rests ∙ e))),
  (λ e. rests ∙ (bytes_decides a.rest b.rest).1 (one_parts a b alike e).1),
)

-- lists with the same texts have the same ones at each place
pub text_at : (xs ys : List Line) (i : ℕ) (a b : Line) → i < length xs → i < length ys → a ≡ get_or xs i a → b ≡ get_or ys i b → map printed xs ≡ map printed ys → printed a ≡ printed b
text_at [] ys i a b h k x y e = absurd (omega arith)
text_at (x ∷ xs) [] i a b h k p q e = absurd (omega arith)
text_at (x ∷ xs) (y ∷ ys) zero a b h k p q e = ap printed p ∙ (let s : printed x ≡ printed y = cc in s) ∙ sym (ap printed q)
text_at (x ∷ xs) (y ∷ ys) (suc i) a b h k p q e = text_at xs ys i a b (omega arith) (omega arith) p q (let s : map printed xs ≡ map printed ys = cc in s)

-- where the texts at one place aren't one, neither are all
pub apart_here : (xs ys : List Line) (i : ℕ) (a b : Line) (same : Bool) → i < length xs → length xs ≡ length ys → a ≡ get_or xs i a → b ≡ get_or ys i b → Decides same (printed a ≡ printed b) → same ≡ false → map printed xs ≡ map printed ys → ⊥
apart_here xs ys i a b same h n p q d f e = absurd (let t : true ≡ false = sym (d.1 (text_at xs ys i a b h (omega (arith, h, n)) p q e)) ∙ f in cc)
