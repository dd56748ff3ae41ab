-- The rows of those that wait.
use Rattle.std.proofs.Common.{◌≡◌, ℕ, ◌<◌, List, [], ◌∷◌, ◌++◌, length, get_or, slice_set, sym, ◌∙◌, subst, inl, inr}
use Rattle.std.proofs.lemmas.List.{get_or-set_same, get_or-set_other}
use Rattle.std.proofs.Math.ListN.{length-set}
use Rattle.go_base.specs.Lists.{Has}
use Rattle.go_imports.specs.inner.Sorting.{row_of, Waited}
use Rattle.go_imports.specs.declared.order.Wait.{Wait}
use Rattle.go_imports.proofs.Members.{has_left, has_last, has_back, same_or}

pub waited_set : (old : List (List Wait)) (on : ℕ) (w : Wait) (row : List Wait) → on < length old → row ≡ row_of old on ++ w ∷ [] → Waited old on w (slice_set old on row)
waited_set old on w row h is =
    let same : get_or (slice_set old on row) on [] ≡ row_of old on ++ w ∷ [] = get_or-set_same old on row [] h ∙ is in
    record {
      rows = length-set old on row;
      kept = λ u y k. elim (same_or u on) [
        | inl e ↦ subst (λ (n : ℕ). Has (row_of (slice_set old on row) n) y) (sym e) (subst (λ (r : List Wait). Has r y) (sym same) (has_left (row_of old on) (w ∷ []) y (subst (λ (n : ℕ). Has (row_of old n) y) e k)))
        | inr d ↦ subst (λ (r : List Wait). Has r y) (sym (get_or-set_other old on u row [] d)) k
      ];
      added = subst (λ (r : List Wait). Has r w) (sym same) (has_last (row_of old on) w);
      sound = λ u y k. elim (same_or u on) [
        | inl e ↦ elim (has_back (row_of old on) w y (subst (λ (r : List Wait). Has r y) same (subst (λ (n : ℕ). Has (row_of (slice_set old on row) n) y) e k))) [
          | inl a ↦ inl (subst (λ (n : ℕ). Has (row_of old n) y) (sym e) a)
          | inr s ↦ inr (e, sym s)
        ]
        | inr d ↦ inl (subst (λ (r : List Wait). Has r y) (get_or-set_other old on u row [] d) k)
      ];
    }
