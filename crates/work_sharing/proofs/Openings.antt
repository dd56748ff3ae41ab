-- A table whose rows are all free keeps the rule.
use Rattle.std.proofs.Common.{◌≡◌, ℕ, zero, suc, ◌<◌, List, [], ◌∷◌, map, length, replicate, Option, Some, None, refl, sym, ap, ◌∙◌, subst, arith}
use Rattle.std.specs.Prelude.{slice_index}
use mathlib.Core.Option.{Option as Home, some}
use lib.ListN.{get_elem?}
use Rattle.atomic_table.specs.Table.{opening}
use Rattle.go_base.specs.Lists.{Has}
use Rattle.work_sharing.specs.declared.rule.View.{View}
use Rattle.work_sharing.specs.Rows.{Row, Holds, IsFit, empty_view}
use Rattle.work_sharing.proofs.Rows.{some_eq}

zeros : (n : ℕ) → length (replicate {A = ℕ} n 0) ≡ n
zeros zero = refl
zeros (suc n) = ap suc (zeros n)

nones : (T : Type 0) (n : ℕ) → length (map some (replicate {A = Option T} n None)) ≡ n
nones T zero = refl
nones T (suc n) = ap suc (nones T n)

zero_at : (n j : ℕ) → slice_index (replicate {A = ℕ} n 0) j ≡ 0
zero_at zero j = refl
zero_at (suc n) zero = refl
zero_at (suc n) (suc j) = zero_at n j

none_at : (T : Type 0) (n j : ℕ) → j < n → get_elem? (map some (replicate {A = Option T} n None)) j ≡ some (some None)
none_at T zero j h = absurd (omega arith)
none_at T (suc n) zero h = refl
none_at T (suc n) (suc j) h = none_at T n j (omega arith)

alone : (a : ℕ) (u : View) → get_elem? (empty_view ∷ []) a ≡ some u → empty_view ≡ u
alone zero u e = some_eq empty_view u e
alone (suc zero) u e = absurd (cc)
alone (suc (suc a)) u e = absurd (cc)

module _ {T : Type 0} (good : ℕ → T → Type 0) (n : ℕ) where
  free_row : (j : ℕ) → j < n → Row good (opening (replicate n 0) (replicate n None) empty_view) j
  free_row j lt =
      let word = zero_at n j in
      let slot = none_at T n j lt in
      record {
        small = rw word (omega arith);
        free = λ z. (slot, λ a u e. subst (λ (y : View). (Has y.claimed j → ⊥) × (Has y.seen j → ⊥)) (alone a u e) ((λ h. h), (λ h. h)));
        one = λ a b x y ea eb ha hb. absurd (subst (λ (y : View). Has y.claimed j) (sym (alone a x ea)) ha);
        someone = λ p. absurd (omega (arith, word, p));
        full = λ a u e h. absurd (subst (λ (y : View). Has y.filled j) (sym (alone a u e)) h);
        home = λ z. absurd (omega (arith, word, z));
        right = λ x e. let bad : ◌≡◌ {A = Home (Home (Option T))} (some (some None)) (some (some (Some x))) = sym slot ∙ e in absurd (cc);
      }

  pub opens : Holds good (opening (replicate n 0) (replicate n None) empty_view)
  opens = record {
    same = zeros n ∙ sym (nones T n);
    rows = λ j lt. free_row j (omega (arith, lt, nones T n));
    fit = λ a u e. subst (IsFit _) (alone a u e) (tt, (λ j h. absurd h), (λ j h. h));
  }

pub opens_at : {T : Type 0} (good : ℕ → T → Type 0) (n : ℕ) (words : List ℕ) → words ≡ replicate n 0 → Holds good (opening words (replicate n None) empty_view)
opens_at good n words e = subst (λ (ws : List ℕ). Holds good (opening ws (replicate n None) empty_view)) (sym e) (opens good n)
