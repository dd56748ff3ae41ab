-- A claim keeps the rule.
use Rattle.std.proofs.Common.{◌≡◌, ◌≢◌, ℕ, ◌<◌, List, [], length, Option, Some, None, refl, sym, ap, ◌∙◌, subst, ◌⊎◌, inl, inr, arith, length-set}
use Rattle.std.proofs.lemmas.List.{get_or-set_same, get_or-set_other, set-get_or}
use Rattle.std.specs.Prelude.{slice_set, slice_index, ◌==◌}
use prog.Atomic.{either}
use mathlib.Core.Option.{Option as Home, some, none}
use lib.ListN.{get_elem?}
use Rattle.atomic_table.specs.Table.{State, Act, keeps, takes, Allows, Valid, stepped, step, carried_after}
use Rattle.atomic_table.proofs.Lists.{set_here, set_else, exchanged}
use Rattle.go_base.specs.Lists.{Has}
use Rattle.work_sharing.specs.declared.rule.View.{View}
use Rattle.work_sharing.specs.Rows.{Row, Holds, IsFit, claimed, looks, with_claimed, with_seen}
use Rattle.work_sharing.proofs.Rows.{by_eq, below, tail_has, entry, other_row, still_fit}

module _ {T : Type 0} (good : ℕ → T → Type 0) (s : State (Option T) View) (id j : ℕ) (v : View) (here : get_elem? s.views id ≡ some v) where
  at_id : Row good s j → slice_index s.words j ≡ 0 → (a : ℕ) (u : View) → ((a ≡ id) × (with_claimed v j ≡ u)) ⊎ ((a ≢ id) × (get_elem? s.views a ≡ some u)) → Has u.claimed j → a ≡ id
  at_id r z a u (inl p) h = p.0
  at_id r z a u (inr p) h = absurd (((r.free z).1 a u p.1).0 h)

  never_full : Row good s j → slice_index s.words j ≡ 0 → (a : ℕ) (u : View) → ((a ≡ id) × (with_claimed v j ≡ u)) ⊎ ((a ≢ id) × (get_elem? s.views a ≡ some u)) → Has u.filled j → ⊥
  never_full r z a u (inl p) h = let f = r.full id v here (subst (λ (y : View). Has y.filled j) (sym p.1) h) in omega (arith, f.1, z)
  never_full r z a u (inr p) h = let f = r.full a u p.1 h in omega (arith, f.1, z)

  -- the row that is claimed
  claimed_row : length s.words ≡ length s.homes → j < length s.homes → Row good s j → slice_index s.words j ≡ 0
      → Row good (record { words = slice_set s.words j 1; homes = slice_set s.homes j none; views = slice_set s.views id (with_claimed v j) }) j
  claimed_row same lt r z =
      let f = r.free z in
      let word : slice_index (slice_set s.words j 1) j ≡ 1 = get_or-set_same s.words j 1 0 (omega arith) in
      let gone : get_elem? (slice_set s.homes j none) j ≡ some none = set_here s.homes j none lt in
      let mine = λ (a : ℕ) (u : View) (e : get_elem? (slice_set s.views id (with_claimed v j)) a ≡ some u) (h : Has u.claimed j). at_id r z a u (entry good s id v (with_claimed v j) here a u e) h in
      record {
        small = rw word (omega arith);
        free = λ e. absurd (omega (arith, word, e));
        one = λ a b x y ea eb ha hb. mine a x ea ha ∙ sym (mine b y eb hb);
        someone = λ p. (id, with_claimed v j, set_here s.views id (with_claimed v j) (below s.views id v here), inl refl);
        full = λ a u e h. absurd (never_full r z a u (entry good s id v (with_claimed v j) here a u e) h);
        home = λ e. absurd (omega (arith, word, e));
        right = λ x e. let bad : ◌≡◌ {A = Home (Home (Option T))} (some none) (some (some (Some x))) = sym gone ∙ e in absurd (cc);
      }

  fit_claim : Row good s j → slice_index s.words j ≡ 0 → j < length s.homes → IsFit (length s.homes) v → IsFit (length s.homes) (with_claimed v j)
  fit_claim r z lt f = ((((r.free z).1 id v here).0, f.0), (λ k h. elim h [ inl e ↦ subst (λ (n : ℕ). n < length s.homes) e lt | inr h ↦ f.1 k h ]), (λ k h. inr (f.2 k h)))

  claimed_rows : Holds good s → j < length s.homes → slice_index s.words j ≡ 0
      → Holds good (record { words = slice_set s.words j 1; homes = slice_set s.homes j none; views = slice_set s.views id (with_claimed v j) })
  claimed_rows h lt z = record {
    same = length-set s.words j 1 ∙ h.same ∙ sym (length-set s.homes j none);
    rows = λ k below_k.
        let lk : k < length s.homes = omega (arith, below_k, length-set s.homes j none) in
        by_eq k j (Row good _ k)
        (λ q. subst (Row good _) (sym q) (claimed_row h.same lt (h.rows j lt) z))
        (λ q. other_row good s id v (with_claimed v j) here (slice_set s.words j 1) (slice_set s.homes j none) k (get_or-set_other s.words j k 1 0 q) (set_else s.homes j k none q) (tail_has j k v.claimed q, (λ e. inr e), (λ e. e), (λ _ e. e)) (h.rows k lk));
    fit = still_fit good s id v (with_claimed v j) here (length (slice_set s.homes j none)) (sym (length-set s.homes j none)) (fit_claim (h.rows j lt) z lt (h.fit id v here)) h.fit;
  }

  seen_rows : Holds good s → 0 < slice_index s.words j
      → Holds good (record { words = s.words; homes = s.homes; views = slice_set s.views id (with_seen v j) })
  seen_rows h taken = record {
    same = h.same;
    rows = λ k lk. other_row good s id v (with_seen v j) here s.words s.homes k refl refl
        ((λ e. e), (λ e. e), (λ e. e), λ z e. by_eq k j (Has v.seen k) (λ q. let zero : slice_index s.words j ≡ 0 = sym (ap (slice_index s.words) q) ∙ z in absurd (omega arith)) (λ q. tail_has j k v.seen q e)) (h.rows k lk);
    fit = still_fit good s id v (with_seen v j) here (length s.homes) refl (h.fit id v here) h.fit;
  }

  kept : (w : View) → Holds good (record { words = s.words; homes = s.homes; views = slice_set s.views id w }) → Holds good (stepped s j (slice_index s.words j) id [] w keeps)
  kept w h = subst (λ (ws : List ℕ). Holds good (record { words = ws; homes = s.homes; views = slice_set s.views id w })) (sym (set-get_or s.words j 0)) h

claim_moves : {T : Type 0} (good : ℕ → T → Type 0) (slots id : ℕ) (v : View) (j : ℕ) → j < slots
    → Allows (Holds good) slots id (v, []) j (λ n. either (n == 0) 1 n) (claimed (step slots j 0 1 none) (v, []))
claim_moves {T} good slots id v j lt s h len here fits =
    exchanged (slice_index s.words j) 0 1 (λ m. (w : View) × (a : Act (Option T)) × Valid s.homes [] a × Holds good (stepped s j m id [] w a) × claimed (step slots j 0 1 none) (v, []) (slice_index s.words j) (w, carried_after [] a))
    (λ z. (with_claimed v j, takes j None, ((h.rows j (omega (arith, len, lt))).free z).0, claimed_rows good s id j v here h (omega (arith, len, lt)) z, inl (z, (λ f. let r = h.rows j (omega (arith, len, lt)) in ((r.free z).1 id v here).0 (r.full id v here f).0), refl)))
    (λ z. (with_seen v j, keeps, tt, kept good s id j v here (with_seen v j) (seen_rows good s id j v here h (omega arith)), inr (omega arith, refl)))

-- a worker that holds no slot may claim a row
pub claim_at : {T : Type 0} (good : ℕ → T → Type 0) (slots words id : ℕ) (v : View) (c : List (ℕ × Option T)) (j : ℕ) → c ≡ [] → j < words → words ≡ slots
    → Allows (Holds good) slots id (v, c) j (λ n. either (n == 0) 1 n) (claimed (step slots j 0 1 none) (v, c))
claim_at {T} good slots words id v c j e lt same =
    subst (λ (c : List (ℕ × Option T)). Allows (Holds good) slots id (v, c) j (λ n. either (n == 0) 1 n) (claimed (step slots j 0 1 none) (v, c))) (sym e) (claim_moves good slots id v j (omega arith))

still_rows : {T : Type 0} (good : ℕ → T → Type 0) (s : State (Option T) View) (id : ℕ) (v : View) → get_elem? s.views id ≡ some v → Holds good s → Holds good (record { words = s.words; homes = s.homes; views = slice_set s.views id v })
still_rows good s id v here h = record {
  same = h.same;
  rows = λ k lk. other_row good s id v v here s.words s.homes k refl refl ((λ e. e), (λ e. e), (λ e. e), λ z e. e) (h.rows k lk);
  fit = still_fit good s id v v here (length s.homes) refl (h.fit id v here) h.fit;
}

-- a worker may look
pub look_at : {T : Type 0} (good : ℕ → T → Type 0) (slots id : ℕ) (v : View) (c : List (ℕ × Option T)) (j : ℕ) → Allows (Holds good) slots id (v, c) j (λ n. n) (looks (step slots j 0 0 none) (v, c))
look_at {T} good slots id v c j s h len here fits = (
  v,
  keeps,
  tt,
  subst (λ (ws : List ℕ). Holds good (record { words = ws; homes = s.homes; views = slice_set s.views id v })) (sym (set-get_or s.words j 0)) (still_rows good s id v here h),
  (refl, subst (λ (n : ℕ). IsFit n v) len (h.fit id v here)),
)
