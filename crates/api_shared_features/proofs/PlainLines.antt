-- Lines without context whose paths have no comma are one where their texts are.
use Rattle.std.proofs.Common.{◌≡◌, ◌≢◌, ℕ, None, List, [], ◌∷◌, ◌++◌, refl, sym, ap, ◌∙◌, drop}
use Rattle.api_lines.proofs.PlainTexts.{plain_text}
use Rattle.api_lines.specs.Lines.{printed}
use Rattle.api_lines.specs.declared.line.Line.{Line}
use Rattle.api_shared_features.specs.inner.KeptFeatures.{IsPlain}

-- bytes without a comma before one are one
pub before_comma : (xs ys rs ss : List ℕ) → IsPlain xs → IsPlain ys → xs ++ 44 ∷ rs ≡ ys ++ 44 ∷ ss → (xs ≡ ys) × (rs ≡ ss)
before_comma [] [] rs ss p q e = (refl, cc)
before_comma [] (y ∷ ys) rs ss p q e = absurd (q.0 (let s : y ≡ 44 = cc in s))
before_comma (x ∷ xs) [] rs ss p q e = absurd (p.0 (let s : x ≡ 44 = cc in s))
before_comma (x ∷ xs) (y ∷ ys) rs ss p q e =
    let first : x ≡ y = cc in
    let k = before_comma xs ys rs ss p.1 q.1 (let s : xs ++ 44 ∷ rs ≡ ys ++ 44 ∷ ss = cc in s) in
    ((λ i. first i ∷ k.0 i), k.1)

-- a line without context and without a comma in its path
pub record IsSimple (l : Line) : Type 0 where
  pub context : l.context ≡ None
  pub path : IsPlain l.path

-- such lines are one where their texts are
pub one_line : (k l : Line) → IsSimple k → IsSimple l → printed k ≡ printed l → k ≡ l
one_line k l a b e =
    let same = before_comma k.path l.path (32 ∷ k.rest) (32 ∷ l.rest) a.path b.path (ap (drop 4) (sym (plain_text k a.context) ∙ e ∙ plain_text l b.context)) in
    let rest : k.rest ≡ l.rest = ap (drop 1) same.1 in
    let context : k.context ≡ l.context = a.context ∙ sym b.context in
    (λ i. record { path = same.0 i; context = context i; rest = rest i })
