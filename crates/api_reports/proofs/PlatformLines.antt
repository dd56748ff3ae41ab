-- The lines of platforms, one after another.
use Rattle.std.proofs.Common.{◌≡◌, ◌≢◌, ◌⊎◌, inl, inr, ℕ, zero, suc, List, [], ◌∷◌, ◌++◌, refl, sym, ap, ◌∙◌, append_assoc, append-nil, arith}
use Rattle.go_model.specs.declared.files.platform.Platform.{Platform}
use Rattle.api_reports.specs.Reports.{by_platform, count_line, count_lines, unlines}
use Rattle.api_texts.specs.declared.lines.Side.{Side}
use Rattle.api_reports.proofs.TextLines.{unlines_both}

module _ {A : Type 0} (lines_of : Platform → A → List (List ℕ)) where
  pub platforms_next : {all : List ℕ} (ps qs : List Platform) (xs ys : List A) (p : Platform) (x : A) (old new : List ℕ) → ps ≡ p ∷ qs → xs ≡ x ∷ ys → new ≡ old ++ unlines (lines_of p x)
      → old ++ unlines (by_platform lines_of ps xs) ≡ all → new ++ unlines (by_platform lines_of qs ys) ≡ all
  platforms_next ps qs xs ys p x old new e f g r =
      let more : List ℕ = unlines (by_platform lines_of qs ys) in
      ap (λ (w : List ℕ). w ++ more) g ∙ append_assoc old (unlines (lines_of p x)) more ∙ ap (λ (w : List ℕ). old ++ w) (sym (unlines_both (lines_of p x) (by_platform lines_of qs ys)))
      ∙ (λ i. old ++ unlines (by_platform lines_of (sym e i) (sym f i))) ∙ r

  no_lines : (ps : List Platform) (xs : List A) → (ps ≡ []) ⊎ (xs ≡ []) → by_platform lines_of ps xs ≡ []
  no_lines ps xs (inl e) = ap (λ (w : List Platform). by_platform lines_of w xs) e
  no_lines [] xs (inr e) = refl
  no_lines (p ∷ ps) xs (inr e) = ap (λ (w : List A). by_platform lines_of (p ∷ ps) w) e

  pub platforms_done : {all : List ℕ} (ps : List Platform) (xs : List A) (text : List ℕ) → (ps ≡ []) ⊎ (xs ≡ []) → text ++ unlines (by_platform lines_of ps xs) ≡ all → text ≡ all
  platforms_done ps xs text h r = sym (append-nil text) ∙ ap (λ (w : List (List ℕ)). text ++ unlines w) (sym (no_lines ps xs h)) ∙ r

-- ---- counts

pub counted_none : (s : Side) (p : Platform) (n : ℕ) (text : List ℕ) → n ≡ 0 → text ≡ text ++ unlines (count_lines s p n)
counted_none s p zero text e = sym (append-nil text)
counted_none s p (suc n) text e = absurd (omega (arith, e))

one_line : (lines : List (List ℕ)) (line : List ℕ) → lines ≡ line ∷ [] → unlines lines ≡ line ++ 10 ∷ []
one_line lines line e = ap unlines e

some_line : (s : Side) (p : Platform) (n : ℕ) → n ≢ 0 → count_lines s p n ≡ count_line s p n ∷ []
some_line s p zero h = absurd (h refl)
some_line s p (suc n) h = refl

pub counted_some : (s : Side) (p : Platform) (n : ℕ) (text new : List ℕ) → n ≢ 0 → new ≡ text ++ count_line s p n ++ 10 ∷ [] → new ≡ text ++ unlines (count_lines s p n)
counted_some s p n text new h e = e ∙ append_assoc text (count_line s p n) (10 ∷ []) ∙ ap (λ (w : List ℕ). text ++ w) (sym (one_line (count_lines s p n) (count_line s p n) (some_line s p n h)))
