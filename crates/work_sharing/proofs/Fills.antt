-- A result that is put into a claimed row keeps the rule, and so does a slot that is given back empty.
use Rattle.std.proofs.Common.{◌≡◌, ◌≢◌, ℕ, ◌<◌, List, [], ◌∷◌, length, Option, Some, None, refl, sym, ◌∙◌, subst, ◌⊎◌, inl, inr, arith, length-set}
use Rattle.std.proofs.lemmas.List.{get_or-set_same, get_or-set_other}
use Rattle.std.specs.Prelude.{slice_set, slice_index}
use mathlib.Core.Option.{Option as Home, some, none}
use lib.ListN.{get_elem?}
use Rattle.atomic_table.specs.Table.{State, gives, Allows, rest, step}
use Rattle.atomic_table.proofs.Lists.{set_here, set_else}
use Rattle.go_base.specs.Lists.{Has}
use Rattle.work_sharing.specs.declared.rule.View.{View}
use Rattle.work_sharing.specs.Rows.{Row, Holds, IsFit, filled, given_back, with_filled}
use Rattle.work_sharing.proofs.Rows.{by_eq, below, tail_has, entry, one_still, other_row, some_eq, still_fit}

-- a slot that is held alone is the one that was taken last
pub held : {A : Type 0} (c : List (ℕ × A)) (x : ℕ × A) → c ≡ x ∷ [] → c ≡ x ∷ rest c
held {A} c x e = subst (λ (l : List (ℕ × A)). l ≡ x ∷ rest l) (sym e) refl

pub result_eq : {T : Type 0} (x y : T) → Some x ≡ Some y → x ≡ y
result_eq x y e = cc

module _ {T : Type 0} (good : ℕ → T → Type 0) (s : State (Option T) View) (id j : ℕ) (v : View) (here : get_elem? s.views id ≡ some v) (mine : Has v.claimed j) where
  filled_claims : Row good s j → (a : ℕ) (u : View) → Has u.filled j → ((a ≡ id) × (with_filled v j ≡ u)) ⊎ ((a ≢ id) × (get_elem? s.views a ≡ some u)) → Has u.claimed j
  filled_claims r a u h (inl p) = subst (λ (y : View). Has y.claimed j) p.1 mine
  filled_claims r a u h (inr p) = (r.full a u p.1 h).0

  filled_row : length s.words ≡ length s.homes → j < length s.homes → Row good s j → (x : T) → good j x
      → Row good (record { words = slice_set s.words j 2; homes = slice_set s.homes j (some (Some x)); views = slice_set s.views id (with_filled v j) }) j
  filled_row same lt r x right =
      let word : slice_index (slice_set s.words j 2) j ≡ 2 = get_or-set_same s.words j 2 0 (omega arith) in
      let back : get_elem? (slice_set s.homes j (some (Some x))) j ≡ some (some (Some x)) = set_here s.homes j (some (Some x)) lt in
      record {
        small = rw word (omega arith);
        free = λ e. absurd (omega (arith, word, e));
        one = one_still good s id v (with_filled v j) here j (λ h. h) r;
        someone = λ p. (id, with_filled v j, set_here s.views id (with_filled v j) (below s.views id v here), mine);
        full = λ a u e h. (filled_claims r a u h (entry good s id v (with_filled v j) here a u e), word);
        home = λ e. (x, back);
        right = λ y e. subst (good j) (result_eq x y (some_eq (Some x) (Some y) (some_eq (some (Some x)) (some (Some y)) (sym back ∙ e)))) right;
      }

  fit_filled : IsFit (length s.homes) v → IsFit (length s.homes) (with_filled v j)
  fit_filled f = (f.0, f.1, λ k h. elim h [ inl e ↦ subst (Has v.claimed) e mine | inr h ↦ f.2 k h ])

  pub filled_rows : Holds good s → j < length s.homes → (x : T) → good j x
      → Holds good (record { words = slice_set s.words j 2; homes = slice_set s.homes j (some (Some x)); views = slice_set s.views id (with_filled v j) })
  filled_rows h lt x right = record {
    same = length-set s.words j 2 ∙ h.same ∙ sym (length-set s.homes j (some (Some x)));
    rows = λ k below_k.
        let lk : k < length s.homes = omega (arith, below_k, length-set s.homes j (some (Some x))) in
        by_eq k j (Row good _ k)
        (λ q. subst (Row good _) (sym q) (filled_row h.same lt (h.rows j lt) x right))
        (λ q. other_row good s id v (with_filled v j) here (slice_set s.words j 2) (slice_set s.homes j (some (Some x))) k (get_or-set_other s.words j k 2 0 q) (set_else s.homes j k (some (Some x)) q) ((λ e. e), (λ e. e), tail_has j k v.filled q, (λ _ e. e)) (h.rows k lk));
    fit = still_fit good s id v (with_filled v j) here (length (slice_set s.homes j (some (Some x)))) (sym (length-set s.homes j (some (Some x)))) (fit_filled (h.fit id v here)) h.fit;
  }

  -- who has the row as filled is the one who claims it
  never_filled : Row good s j → (Has v.filled j → ⊥) → (a : ℕ) (u : View) → Has u.filled j → ((a ≡ id) × (v ≡ u)) ⊎ ((a ≢ id) × (get_elem? s.views a ≡ some u)) → ⊥
  never_filled r not_yet a u h (inl p) = not_yet (subst (λ (y : View). Has y.filled j) (sym p.1) h)
  never_filled r not_yet a u h (inr p) = p.0 (r.one a id u v p.1 here (r.full a u p.1 h).0 mine)

  given_row : length s.words ≡ length s.homes → j < length s.homes → Row good s j → (Has v.filled j → ⊥)
      → Row good (record { words = slice_set s.words j 1; homes = slice_set s.homes j (some None); views = slice_set s.views id v }) j
  given_row same lt r not_yet =
      let word : slice_index (slice_set s.words j 1) j ≡ 1 = get_or-set_same s.words j 1 0 (omega arith) in
      let back : get_elem? (slice_set s.homes j (some None)) j ≡ some (some None) = set_here s.homes j (some None) lt in
      record {
        small = rw word (omega arith);
        free = λ e. absurd (omega (arith, word, e));
        one = one_still good s id v v here j (λ h. h) r;
        someone = λ p. (id, v, set_here s.views id v (below s.views id v here), mine);
        full = λ a u e h. absurd (never_filled r not_yet a u h (entry good s id v v here a u e));
        home = λ e. absurd (omega (arith, word, e));
        right = λ y e. let bad : ◌≡◌ {A = Home (Home (Option T))} (some (some None)) (some (some (Some y))) = sym back ∙ e in absurd (cc);
      }

  pub given_rows : Holds good s → j < length s.homes → (Has v.filled j → ⊥)
      → Holds good (record { words = slice_set s.words j 1; homes = slice_set s.homes j (some None); views = slice_set s.views id v })
  given_rows h lt not_yet = record {
    same = length-set s.words j 1 ∙ h.same ∙ sym (length-set s.homes j (some None));
    rows = λ k below_k.
        let lk : k < length s.homes = omega (arith, below_k, length-set s.homes j (some None)) in
        by_eq k j (Row good _ k)
        (λ q. subst (Row good _) (sym q) (given_row h.same lt (h.rows j lt) not_yet))
        (λ q. other_row good s id v v here (slice_set s.words j 1) (slice_set s.homes j (some None)) k (get_or-set_other s.words j k 1 0 q) (set_else s.homes j k (some None) q) ((λ e. e), (λ e. e), (λ e. e), (λ _ e. e)) (h.rows k lk));
    fit = still_fit good s id v v here (length (slice_set s.homes j (some None))) (sym (length-set s.homes j (some None))) (h.fit id v here) h.fit;
  }

-- a worker that claims a row and holds its slot may put a result there
pub fill_at : {T : Type 0} (good : ℕ → T → Type 0) (slots words id : ℕ) (v : View) (c : List (ℕ × Option T)) (j : ℕ) (x : T) → c ≡ (j, Some x) ∷ [] → j < words → words ≡ slots → Has v.claimed j → good j x
    → Allows (Holds good) slots id (v, c) j (λ _. 2) (λ _. filled (step slots j 2 0 none) (v, c) 2)
fill_at {T} good slots words id v c j x e lt same mine right =
    subst (λ (c : List (ℕ × Option T)). Allows (Holds good) slots id (v, c) j (λ _. 2) (λ _. filled (step slots j 2 0 none) (v, c) 2)) (sym e)
    (λ s h len here fits. (with_filled v j, gives, tt, filled_rows good s id j v here mine h (omega arith) x right, refl))

-- it may give the slot back empty where it hasn't filled the row
pub give_back_at : {T : Type 0} (good : ℕ → T → Type 0) (slots words id : ℕ) (v : View) (c : List (ℕ × Option T)) (j : ℕ) → c ≡ (j, None) ∷ [] → j < words → words ≡ slots → Has v.claimed j → (Has v.filled j → ⊥)
    → Allows (Holds good) slots id (v, c) j (λ _. 1) (λ _. given_back (step slots j 1 0 none) (v, c) 1)
give_back_at {T} good slots words id v c j e lt same mine not_yet =
    subst (λ (c : List (ℕ × Option T)). Allows (Holds good) slots id (v, c) j (λ _. 1) (λ _. given_back (step slots j 1 0 none) (v, c) 1)) (sym e)
    (λ s h len here fits. (v, gives, tt, given_rows good s id j v here mine h (omega arith) not_yet, refl))
