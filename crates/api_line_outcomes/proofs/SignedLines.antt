-- The lost and the new lines of features against frozen lines.
use Rattle.std.proofs.Common.{◌≡◌, ◌⊎◌, ℕ, Bool, true, false, List, [], ◌∷◌, ◌++◌, map, refl, sym, subst, inl, inr}
use Rattle.go_base.specs.Lists.{Has}
use Rattle.go_existence.specs.Existence.{AreFinite, NotNone}
use Rattle.go_existence.proofs.DoubleNegation.{so}
use Rattle.go_existence.proofs.FiniteSets.{finite_in, has_left, has_map, has_right}
use Rattle.go_existence.proofs.OrderedTexts.{in_order, strictly}
use Rattle.api_frozen.specs.Comparison.{IsReport, IsSigned, IsSignedAs}
use Rattle.api_frozen.specs.declared.signed.Signed.{Signed}
use Rattle.api_lines.specs.Lines.{HasText, printed}
use Rattle.api_lines.specs.declared.line.Line.{Line}

module _ (features : List Line) (required exceptions : List (List ℕ)) where
  abbrev IsIn : Signed → Type 0
  IsIn = IsSigned features required exceptions

  abbrev lost : List ℕ → Signed
  lost t = record { lost = true; line = t }

  abbrev new : Line → Signed
  new l = record { lost = false; line = printed l }

  abbrev possible : List Signed
  possible = map lost required ++ map new features

  is_possible : (s : Signed) → IsIn s → Has possible s
  is_possible s h = by s.lost refl h
    where
      by : (b : Bool) → s.lost ≡ b → IsSignedAs features required exceptions b s.line → Has possible s
      by true e k = has_left (map lost required) (map new features) s (subst (Has (map lost required)) (λ i. record { lost = sym e i; line = s.line }) (has_map lost required s.line k.asked))
      by false e k = has_right (map lost required) (map new features) s (subst (Has (map new features)) (λ i. record { lost = sym e i; line = k.feature.2 i }) (has_map new features k.feature.0 k.feature.1))

  -- a line isn't both lost and new
  same_sign : (a b : Bool) (t : List ℕ) → IsSignedAs features required exceptions a t → IsSignedAs features required exceptions b t → a ≡ b
  same_sign true true t h k = refl
  same_sign true false t h k = absurd (h.missing k.feature)
  same_sign false true t h k = absurd (k.missing h.feature)
  same_sign false false t h k = refl

  same_signed : (s t : Signed) → IsIn s → IsIn t → s.line ≡ t.line → s ≡ t
  same_signed s t h k e =
      let f = same_sign s.lost t.lost t.line (subst (IsSignedAs features required exceptions s.lost) e h) k in
      λ i. record { lost = f i; line = e i }

  pub lines_compared : NotNone ((lines : List Signed) × IsReport features required exceptions lines)
  lines_compared = so (in_order (λ (s : Signed). s.line) IsIn (finite_in IsIn possible is_possible)) (λ k. (
    k.0,
    record {
      sound = k.1.sound;
      complete = λ s h. let t = k.1.complete s h in subst (Has k.0) (same_signed t.0 s (k.1.sound t.0 t.1) h t.2) t.1;
      ordered = strictly (λ (s : Signed). s.line) k.0 k.2;
    },
  ))
