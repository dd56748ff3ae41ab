-- Texts of lines, line by line.
use Rattle.std.proofs.Common.{◌≡◌, ℕ, ◌+◌, ◌<◌, ◌≤◌, List, [], ◌∷◌, ◌++◌, length, get_or, drop, map, refl, sym, ap, ◌∙◌, append_assoc, append-nil}
use Rattle.std.proofs.lemmas.List.{drop_more}
use Rattle.go_base.proofs.Lists.{drop_past}
use Rattle.api_reports.specs.Reports.{unlines}

module _ {A : Type 0} (text_of : A → List ℕ) (items : List A) where
  from_here : (i : ℕ) (x : A) → i < length items → x ≡ get_or items i x → drop i items ≡ x ∷ drop (i + 1) items
  from_here i x h is = drop_more items i x h ∙ ap (λ y. y ∷ drop (i + 1) items) (sym is)

  pub text_next : {all : List ℕ} (i : ℕ) (x : A) (old new : List ℕ) → i < length items → x ≡ get_or items i x → new ≡ old ++ text_of x ++ 10 ∷ [] → old ++ unlines (map text_of (drop i items)) ≡ all
      → new ++ unlines (map text_of (drop (i + 1) items)) ≡ all
  text_next i x old new h is e r =
      let more : List ℕ = unlines (map text_of (drop (i + 1) items)) in
      ap (λ (w : List ℕ). w ++ more) e ∙ append_assoc (old ++ text_of x) (10 ∷ []) more ∙ append_assoc old (text_of x) (10 ∷ more)
      ∙ ap (λ (w : List A). old ++ unlines (map text_of w)) (sym (from_here i x h is)) ∙ r

  pub text_done : {all : List ℕ} (i : ℕ) (text : List ℕ) → length items ≤ i → text ++ unlines (map text_of (drop i items)) ≡ all → text ≡ all
  text_done i text h r = sym (append-nil text) ∙ ap (λ (w : List A). text ++ unlines (map text_of w)) (sym (drop_past i items h)) ∙ r

pub unlines_both : (a b : List (List ℕ)) → unlines (a ++ b) ≡ unlines a ++ unlines b
unlines_both [] b = refl
unlines_both (line ∷ a) b = ap (λ (w : List ℕ). line ++ 10 ∷ w) (unlines_both a b) ∙ sym (append_assoc line (10 ∷ unlines a) (unlines b))
