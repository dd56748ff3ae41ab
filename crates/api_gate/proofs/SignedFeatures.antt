-- Features with the same texts lost and gained the same.
use Rattle.std.proofs.Common.{◌≡◌, ℕ, Bool, true, false, List, [], ◌∷◌, map, refl, sym, subst, inl, inr}
use Rattle.api_findings.proofs.OneListing.{text_in}
use Rattle.api_frozen.specs.Comparison.{IsLostLine, IsNew, IsReport, IsSigned, IsSignedAs}
use Rattle.api_frozen.specs.declared.signed.Signed.{Signed}
use Rattle.api_judge.proofs.SortedTexts.{same_lists}
use Rattle.api_lines.proofs.OrderedTexts.{has_map, map_has}
use Rattle.api_lines.specs.Lines.{HasText, printed}
use Rattle.api_lines.specs.declared.line.Line.{Line}
use Rattle.go_base.specs.Lists.{Has}

abbrev line_in : Signed → List ℕ
line_in s = s.line

text_as : (f g : List Line) (text : List ℕ) → map printed f ≡ map printed g → HasText f text → HasText g text
text_as f g text e h = map_has printed g text (subst (λ (w : List (List ℕ)). Has w text) e (text_in f text h))

module _ (required exceptions : List (List ℕ)) where
  lost_as : (f g : List Line) (text : List ℕ) → map printed f ≡ map printed g → IsLostLine f required exceptions text → IsLostLine g required exceptions text
  lost_as f g text e l = record { asked = l.asked; missing = λ h. l.missing (text_as g f text (sym e) h); unexcepted = l.unexcepted; narrowed = λ plain c h. l.narrowed plain c (text_as g f plain (sym e) h) }

  new_as : (f g : List Line) (text : List ℕ) → map printed f ≡ map printed g → IsNew f required text → IsNew g required text
  new_as f g text e n = record { feature = text_as f g text e n.feature; unasked = n.unasked }

  signed_by : (f g : List Line) (lost : Bool) (text : List ℕ) → map printed f ≡ map printed g → IsSignedAs f required exceptions lost text → IsSignedAs g required exceptions lost text
  signed_by f g true text e s = lost_as f g text e s
  signed_by f g false text e s = new_as f g text e s

  signed_as : (f g : List Line) (s : Signed) → map printed f ≡ map printed g → IsSigned f required exceptions s → IsSigned g required exceptions s
  signed_as f g s e h = signed_by f g s.lost s.line e h

  one_sign : (g : List Line) (a b : Bool) (text : List ℕ) → IsSignedAs g required exceptions a text → IsSignedAs g required exceptions b text → a ≡ b
  one_sign g true true text h k = refl
  one_sign g true false text h k = absurd (h.missing k.feature)
  one_sign g false true text h k = absurd (k.missing h.feature)
  one_sign g false false text h k = refl

  covered : (f g : List Line) (xs ys : List Signed) → map printed f ≡ map printed g → IsReport f required exceptions xs → IsReport g required exceptions ys → (text : List ℕ) → Has (map line_in xs) text → Has (map line_in ys) text
  covered f g xs ys e a b text h =
      let k = map_has line_in xs text h in
      subst (Has (map line_in ys)) k.2 (has_map line_in ys k.0 (b.complete k.0 (signed_as f g k.0 e (a.sound k.0 k.1))))

  by_lines : (g : List Line) (xs ys : List Signed) → map line_in xs ≡ map line_in ys → ((s : Signed) → Has xs s → IsSigned g required exceptions s) → ((s : Signed) → Has ys s → IsSigned g required exceptions s) → xs ≡ ys
  by_lines g [] [] e f h = refl
  by_lines g [] (y ∷ ys) e f h = absurd (cc)
  by_lines g (x ∷ xs) [] e f h = absurd (cc)
  by_lines g (x ∷ xs) (y ∷ ys) e f h =
      let line : x.line ≡ y.line = cc in
      let lost : x.lost ≡ y.lost = one_sign g x.lost y.lost y.line (subst (IsSignedAs g required exceptions x.lost) line (f x (inl refl))) (h y (inl refl)) in
      let rest : xs ≡ ys = by_lines g xs ys (let k : map line_in xs ≡ map line_in ys = cc in k) (λ s k. f s (inr k)) (λ s k. h s (inr k)) in
      (λ i. record { lost = lost i; line = line i } ∷ rest i)

  pub same_signed : (f g : List Line) (xs ys : List Signed) → map printed f ≡ map printed g → IsReport f required exceptions xs → IsReport g required exceptions ys → xs ≡ ys
  same_signed f g xs ys e a b =
      by_lines g xs ys
      (same_lists (map line_in xs) (map line_in ys) a.ordered b.ordered (covered f g xs ys e a b) (covered g f ys xs (sym e) b a))
      (λ s h. signed_as f g s e (a.sound s h))
      b.sound
