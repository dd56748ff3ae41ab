-- Rows that are turned round.
use Rattle.std.proofs.Common.{◌≡◌, ℕ, zero, suc, ◌<◌, List, [], ◌∷◌, ◌++◌, length, get_or, set, refl, sym, ap, ◌∙◌, subst, ◌⊎◌, inl, inr, get_or-set_same, get_or-set_other}
use Rattle.std.proofs.lemmas.Option.{get_or_from_slice_get, slice_get_read}
use Rattle.std.specs.Prelude.{replicate}
use Rattle.go_base.specs.Lists.{Has}
use Rattle.go_base.proofs.Members.{has_split}
use Rattle.go_graphs.specs.Walks.{row_of}
use Rattle.go_graphs.specs.inner.Components.{TurnsRound}
use Rattle.go_graphs.proofs.Flagging.{same_or_not}

-- an empty row has no member
pub empty_has : (k n m : ℕ) → Has (row_of (replicate k []) n) m → ⊥
empty_has zero n m h = h
empty_has (suc k) zero m h = h
empty_has (suc k) (suc n) m h = empty_has k n m h

abbrev no_row : List ℕ
no_row = []

pub empty_size : (k : ℕ) → length (replicate k no_row) ≡ k
empty_size zero = refl
empty_size (suc k) = ap suc (empty_size k)

-- after one number was added at the end of one row
pub added_row : (rows : List (List ℕ)) (target source n m : ℕ) → target < length rows → Has (row_of (set rows target (row_of rows target ++ source ∷ [])) n) m → Has (row_of rows n) m ⊎ ((n ≡ target) × (m ≡ source))
added_row rows target source n m l h = elim (same_or_not n target) [
  | inr e ↦ inl (subst (λ (r : List ℕ). Has r m) (get_or-set_other rows target n (row_of rows target ++ source ∷ []) [] e) h)
  | inl e ↦ (let r = row_of rows target ++ source ∷ [] in
      let k : Has r m = subst (λ (r : List ℕ). Has r m) (ap (row_of (set rows target r)) e ∙ get_or-set_same rows target r [] l) h in
      elim (has_split (row_of rows target) (source ∷ []) m k) [
        | inl a ↦ inl (subst (λ (z : ℕ). Has (row_of rows z) m) (sym e) a)
        | inr b ↦ elim b [ inl q ↦ inr (e, sym q) | inr z ↦ absurd z ]
      ])
]

-- the same, of a row that was read and pushed to
pub added_row_at : (rows : List (List ℕ)) (target source : ℕ) (r new : List ℕ) → target < length rows → r ≡ get_or rows target r → new ≡ r ++ source ∷ [] → (n m : ℕ) → Has (row_of (set rows target new) n) m → Has (row_of rows n) m ⊎ ((n ≡ target) × (m ≡ source))
added_row_at rows target source r new l e f n m h =
    let q : row_of rows target ≡ r = get_or_from_slice_get rows target r [] (slice_get_read rows (length rows) target r refl l e) in
    added_row rows target source n m l (subst (λ (z : List ℕ). Has (row_of (set rows target z) n) m) (f ∙ ap (λ (z : List ℕ). z ++ source ∷ []) (sym q)) h)

pub turned_start : (rows turned : List (List ℕ)) (k : ℕ) → turned ≡ replicate k [] → k ≡ length rows → TurnsRound rows turned
turned_start rows turned k e l = record {
  size = ap length e ∙ empty_size k ∙ l;
  step = λ n m h. absurd (empty_has k n m (subst (λ (z : List (List ℕ)). Has (row_of z n) m) e h));
}

pub turned_next : (rows old new : List (List ℕ)) (targets : List ℕ) (k source : ℕ) → TurnsRound rows old → length new ≡ length old → ((n m : ℕ) → Has (row_of new n) m → Has (row_of old n) m ⊎ (Has targets n × (m ≡ source))) → targets ≡ row_of rows k → source ≡ k → TurnsRound rows new
turned_next rows old new targets k source t l h e f = record {
  size = l ∙ t.size;
  step = λ n m i. elim (h n m i) [
    | inl j ↦ t.step n m j
    | inr p ↦ subst (λ (z : ℕ). Has (row_of rows z) n) (sym (p.1 ∙ f)) (subst (λ (r : List ℕ). Has r n) e p.0)
  ];
}
