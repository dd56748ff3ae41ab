-- The report of lost and new lines.
use Rattle.std.proofs.Common.{◌≡◌, ℕ, Bool, true, false, not, List, [], refl, sym, ap, ◌∙◌, subst, inl, inr}
use mathlib.Core.Bool.{true≢false}
use Rattle.std.specs.Prelude.{Decides}
use Rattle.go_base.specs.Lists.{Has}
use Rattle.go_base.specs.Growing.{Grows}
use Rattle.api_lines.specs.declared.line.Line.{Line}
use Rattle.api_lines.specs.Lines.{printed, HasText}
use Rattle.api_lines.proofs.Growing.{grows_as}
use Rattle.api_frozen.specs.declared.signed.Signed.{Signed}
use Rattle.api_frozen.specs.Comparison.{IsSignedAs, IsSigned, IsReport}
use Rattle.api_frozen.specs.LineShapes.{IsInContext}
use Rattle.api_frozen.specs.inner.SignedLines.{ArrangesLines, IsMissing, IsLoss, IsLossOf, IsGain, IsGainOf}
use Rattle.api_frozen.proofs.LineParts.{plain_once}

-- ---- one line

pub decides_false : (P : Type 0) → (P → ⊥) → Decides false P
decides_false P none = ((λ t. absurd (true≢false (sym t))), (λ p. absurd (none p)))

pub decides_narrow : (held exceptions : List (List ℕ)) (text plain : List ℕ) (r : Bool) → (Has held text → ⊥) → (Has exceptions text → ⊥) → IsInContext text plain → Decides r (Has held plain) → Decides (not r) (IsMissing held exceptions text)
decides_narrow held exceptions text plain true a b i d = decides_false (IsMissing held exceptions text) (λ m. m.narrowed plain i (d.0 refl))
decides_narrow held exceptions text plain false a b i d = (
  (λ t. record { missing = a; unexcepted = b; narrowed = λ p j h. true≢false (sym (d.1 (subst (Has held) (plain_once text p plain j i) h))) }),
  (λ m. refl),
)

pub decides_plain : (held exceptions : List (List ℕ)) (text : List ℕ) → (Has held text → ⊥) → (Has exceptions text → ⊥) → ((plain : List ℕ) → IsInContext text plain → ⊥) → Decides true (IsMissing held exceptions text)
decides_plain held exceptions text a b none = ((λ t. record { missing = a; unexcepted = b; narrowed = λ p j h. none p j }), (λ m. refl))

pub loss_added : (held exceptions : List (List ℕ)) (text line : List ℕ) (old new : List Signed) → line ≡ text → IsMissing held exceptions text → Grows (λ (s : Signed). record { lost = true; line = line } ≡ s) old new → Grows (IsLoss held exceptions text) old new
loss_added held exceptions text line old new e m g =
    grows_as (λ (s : Signed). record { lost = true; line = text } ≡ s) (IsLoss held exceptions text) old new (λ s p. (m, p)) (λ s p. p.1)
    (subst (λ (w : List ℕ). Grows (λ (s : Signed). record { lost = true; line = w } ≡ s) old new) e g)

pub gain_added : (required : List (List ℕ)) (l : Line) (line : List ℕ) (old new : List Signed) → line ≡ printed l → (Has required line → ⊥) → Grows (λ (s : Signed). record { lost = false; line = line } ≡ s) old new → Grows (IsGain required l) old new
gain_added required l line old new e none g =
    grows_as (λ (s : Signed). record { lost = false; line = printed l } ≡ s) (IsGain required l) old new (λ s p. ((λ h. none (subst (Has required) (sym e) h)), p)) (λ s p. p.1)
    (subst (λ (w : List ℕ). Grows (λ (s : Signed). record { lost = false; line = w } ≡ s) old new) e g)

-- ---- the whole

module _ (features : List Line) (required exceptions held excepted asked : List (List ℕ)) (losses all result : List Signed) (t : Grows (HasText features) [] held) (x : Grows (Has exceptions) [] excepted) (r : Grows (Has required) [] asked) (g : Grows (IsLossOf held excepted required) [] losses) (h : Grows (IsGainOf asked features) losses all) (a : ArrangesLines all result) where
  from_held : (text : List ℕ) → Has held text → HasText features text
  from_held text k = elim (t.sound text k) [ inl n ↦ absurd n | inr p ↦ p ]

  from_excepted : (text : List ℕ) → Has excepted text → Has exceptions text
  from_excepted text k = elim (x.sound text k) [ inl n ↦ absurd n | inr p ↦ p ]

  from_asked : (text : List ℕ) → Has asked text → Has required text
  from_asked text k = elim (r.sound text k) [ inl n ↦ absurd n | inr p ↦ p ]

  loss_is : (s : Signed) → IsLossOf held excepted required s → IsSigned features required exceptions s
  loss_is s w = subst (IsSigned features required exceptions) w.2.1 (record {
    asked = w.1;
    missing = λ f. w.2.0.missing (t.complete w.0 f);
    unexcepted = λ f. w.2.0.unexcepted (x.complete w.0 f);
    narrowed = λ p i f. w.2.0.narrowed p i (t.complete p f);
  })

  gain_is : (s : Signed) → IsGainOf asked features s → IsSigned features required exceptions s
  gain_is s w = subst (IsSigned features required exceptions) w.2.1 (record { feature = (w.0, w.1, refl); unasked = λ k. w.2.0 (r.complete (printed w.0) k) })

  signed_is : (s : Signed) → Has all s → IsSigned features required exceptions s
  signed_is s k = elim (h.sound s k) [ inl l ↦ elim (g.sound s l) [ inl n ↦ absurd n | inr p ↦ loss_is s p ] | inr p ↦ gain_is s p ]

  gathered : (s : Signed) (lost : Bool) → s.lost ≡ lost → IsSignedAs features required exceptions lost s.line → Has all s
  gathered s true e k = h.kept s (g.complete s (s.line, k.asked, (record { missing = λ f. k.missing (from_held s.line f); unexcepted = λ f. k.unexcepted (from_excepted s.line f); narrowed = λ p i f. k.narrowed p i (from_held p f) }, ap (λ (b : Bool). let v : Signed = record { lost = b; line = s.line } in v) (sym e))))
  gathered s false e k =
      let f = k.feature in
      h.complete s (f.0, f.1, ((λ q. k.unasked (subst (Has required) f.2 (from_asked (printed f.0) q))), (λ i. record { lost = sym e i; line = f.2 i })))

  same_sign : (s q : Signed) (b d : Bool) → s.lost ≡ b → q.lost ≡ d → IsSignedAs features required exceptions b s.line → IsSignedAs features required exceptions d q.line → s.line ≡ q.line → s ≡ q
  same_sign s q true true e f k m l = λ i. record { lost = (e ∙ sym f) i; line = l i }
  same_sign s q false false e f k m l = λ i. record { lost = (e ∙ sym f) i; line = l i }
  same_sign s q true false e f k m l = absurd (k.missing (subst (HasText features) (sym l) m.feature))
  same_sign s q false true e f k m l = absurd (m.missing (subst (HasText features) l k.feature))

  complete : (s : Signed) → IsSigned features required exceptions s → Has result s
  complete s k =
      let q = a.complete s (gathered s s.lost refl k) in
      subst (Has result) (sym (same_sign s q.0 s.lost q.0.lost refl refl k (signed_is q.0 (a.sound q.0 q.1)) q.2)) q.1

  pub report_all : IsReport features required exceptions result
  report_all = record { sound = λ s k. signed_is s (a.sound s k); complete = complete; ordered = a.ordered }
