-- Names that are told one after another.
use Rattle.std.proofs.Common.{◌≡◌, ◌<◌, ◌≤◌, ◌+◌, ℕ, List, [], ◌∷◌, ◌++◌, length, get_or, drop, sym, ap, ◌∙◌, append_assoc, append-nil}
use Rattle.std.proofs.lemmas.List.{drop_more}
use Rattle.go_base.proofs.Lists.{drop_past}
use Rattle.api_refusals.specs.SkippedTexts.{listed_names}
use Rattle.api_refusals.specs.inner.Skipped.{names_behind}

pub listed_by : (n : List ℕ) (ns : List (List ℕ)) → n ++ names_behind ns ≡ listed_names (n ∷ ns)
listed_by n [] = append-nil n
listed_by n (m ∷ ns) = ap (λ (w : List ℕ). n ++ 44 ∷ 32 ∷ w) (listed_by m ns)

pub listed_after : (old n : List ℕ) (ns : List (List ℕ)) → (old ++ n) ++ names_behind ns ≡ old ++ listed_names (n ∷ ns)
listed_after old n ns = append_assoc old n (names_behind ns) ∙ ap (λ (w : List ℕ). old ++ w) (listed_by n ns)

module _ (names : List (List ℕ)) where
  pub behind_next : {all : List ℕ} (i : ℕ) (n old new : List ℕ) → i < length names → n ≡ get_or names i n → new ≡ old ++ 44 ∷ 32 ∷ n → old ++ names_behind (drop i names) ≡ all
      → new ++ names_behind (drop (i + 1) names) ≡ all
  behind_next i n old new h is e r =
      let more : List ℕ = names_behind (drop (i + 1) names) in
      let here : drop i names ≡ n ∷ drop (i + 1) names = drop_more names i n h ∙ ap (λ y. y ∷ drop (i + 1) names) (sym is) in
      ap (λ (w : List ℕ). w ++ more) e ∙ append_assoc old (44 ∷ 32 ∷ n) more
      ∙ ap (λ (w : List (List ℕ)). old ++ names_behind w) (sym here) ∙ r

  pub behind_done : {all : List ℕ} (i : ℕ) (text : List ℕ) → length names ≤ i → text ++ names_behind (drop i names) ≡ all → text ≡ all
  behind_done i text h r = sym (append-nil text) ∙ ap (λ (w : List (List ℕ)). text ++ names_behind w) (sym (drop_past i names h)) ∙ r
