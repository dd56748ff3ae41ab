-- What stays of the rows of a table where one view changes.
use Rattle.std.proofs.Common.{◌≡◌, ◌≢◌, ℕ, zero, suc, ◌<◌, ◌≤◌, List, [], ◌∷◌, length, Option, sym, ap, ◌∙◌, subst, ◌⊎◌, inl, inr, arith}
use Rattle.std.specs.Prelude.{slice_set, slice_index}
use mathlib.Core.Option.{Option as Home, some, some-ne-none}
use lib.ListN.{get_elem?}
use Rattle.atomic_table.specs.Table.{State}
use Rattle.atomic_table.proofs.Lists.{set_here, set_else, at_set, exchanged}
use Rattle.go_base.specs.Lists.{Has}
use Rattle.work_sharing.specs.declared.rule.View.{View}
use Rattle.work_sharing.specs.Rows.{Row, IsFit}

pub some_eq : {A : Type 0} (a b : A) → some a ≡ some b → a ≡ b
some_eq a b e = cc

pub by_eq : (a b : ℕ) (P : Type 0) → (a ≡ b → P) → (a ≢ b → P) → P
by_eq a b P f g = exchanged a b 0 (λ _. P) f g

pub below : {A : Type 0} (l : List A) (i : ℕ) (a : A) → get_elem? l i ≡ some a → i < length l
below [] i a e = absurd (some-ne-none a (sym e))
below (x ∷ l) zero a e = omega arith
below (x ∷ l) (suc i) a e = omega (arith, below l i a e)

pub tail_has : (j k : ℕ) (xs : List ℕ) → k ≢ j → Has (j ∷ xs) k → Has xs k
tail_has j k xs ne (inl e) = absurd (ne (sym e))
tail_has j k xs ne (inr h) = h

-- the worker's new view says the same of a row
abbrev pub SameOf : Type 0 → ℕ → View → View → Type 0
SameOf Z k v w = (Has w.claimed k → Has v.claimed k) × (Has v.claimed k → Has w.claimed k) × (Has w.filled k → Has v.filled k) × (Z → Has w.seen k → Has v.seen k)

module _ {T : Type 0} (good : ℕ → T → Type 0) (s : State (Option T) View) (id : ℕ) (v w : View) (here : get_elem? s.views id ≡ some v) where
  -- what an entry of the new views is
  pub entry : (a : ℕ) (u : View) → get_elem? (slice_set s.views id w) a ≡ some u → ((a ≡ id) × (w ≡ u)) ⊎ ((a ≢ id) × (get_elem? s.views a ≡ some u))
  entry a u e = at_set s.views id a w u e

  -- an entry that claims the row did so before
  claimer : (k : ℕ) → (Has w.claimed k → Has v.claimed k) → (a : ℕ) (u : View) → Has u.claimed k → ((a ≡ id) × (w ≡ u)) ⊎ ((a ≢ id) × (get_elem? s.views a ≡ some u)) → (x : View) × (get_elem? s.views a ≡ some x) × Has x.claimed k
  claimer k back a u h (inl p) = (v, ap (get_elem? s.views) p.0 ∙ here, back (subst (λ (y : View). Has y.claimed k) (sym p.1) h))
  claimer k back a u h (inr p) = (u, p.1, h)

  seer : (k : ℕ) → (Has w.seen k → Has v.seen k) → (a : ℕ) (u : View) → Has u.seen k → ((a ≡ id) × (w ≡ u)) ⊎ ((a ≢ id) × (get_elem? s.views a ≡ some u)) → (x : View) × (get_elem? s.views a ≡ some x) × Has x.seen k
  seer k back a u h (inl p) = (v, ap (get_elem? s.views) p.0 ∙ here, back (subst (λ (y : View). Has y.seen k) (sym p.1) h))
  seer k back a u h (inr p) = (u, p.1, h)

  now_full : (k : ℕ) → SameOf (slice_index s.words k ≡ 0) k v w → Row good s k → (a : ℕ) (u : View) → Has u.filled k → ((a ≡ id) × (w ≡ u)) ⊎ ((a ≢ id) × (get_elem? s.views a ≡ some u)) → Has u.claimed k × (slice_index s.words k ≡ 2)
  now_full k same r a u h (inl p) = let f = r.full id v here (same.2 (subst (λ (y : View). Has y.filled k) (sym p.1) h)) in (subst (λ (y : View). Has y.claimed k) p.1 (same.1 f.0), f.1)
  now_full k same r a u h (inr p) = r.full a u p.1 h

  pub someone_at : (k : ℕ) → (Has v.claimed k → Has w.claimed k) → (a : ℕ) (u : View) → get_elem? s.views a ≡ some u → Has u.claimed k → (b : ℕ) × (x : View) × (get_elem? (slice_set s.views id w) b ≡ some x) × Has x.claimed k
  someone_at k on a u e h = by_eq a id _
      (λ q. (id, w, set_here s.views id w (below s.views id v here), on (subst (λ (y : View). Has y.claimed k) (some_eq u v (sym e ∙ ap (get_elem? s.views) q ∙ here)) h)))
      (λ q. (a, u, set_else s.views id a w q ∙ e, h))

  -- one worker claims a row where the claims stay
  pub one_still : (k : ℕ) → (Has w.claimed k → Has v.claimed k) → Row good s k → (a b : ℕ) (x y : View) → get_elem? (slice_set s.views id w) a ≡ some x → get_elem? (slice_set s.views id w) b ≡ some y → Has x.claimed k → Has y.claimed k → a ≡ b
  one_still k back r a b x y ea eb ha hb = let c = claimer k back a x ha (entry a x ea) in let d = claimer k back b y hb (entry b y eb) in r.one a b c.0 d.0 c.1 d.1 c.2 d.2

  -- a row whose word and slot stay
  pub other_row : (words : List ℕ) (homes : List (Home (Option T))) (k : ℕ) → slice_index words k ≡ slice_index s.words k → get_elem? homes k ≡ get_elem? s.homes k → SameOf (slice_index s.words k ≡ 0) k v w → Row good s k
      → Row good (record { words = words; homes = homes; views = slice_set s.views id w }) k
  other_row words homes k ew eh same r = record {
    small = subst (λ (n : ℕ). n ≤ 2) (sym ew) r.small;
    free = λ z. let f = r.free (sym ew ∙ z) in (eh ∙ f.0, λ a u e. ((λ h. let c = claimer k same.0 a u h (entry a u e) in (f.1 a c.0 c.1).0 c.2), (λ h. let c = seer k (same.3 (sym ew ∙ z)) a u h (entry a u e) in (f.1 a c.0 c.1).1 c.2)));
    one = one_still k same.0 r;
    someone = λ p. let c = r.someone (subst (λ (n : ℕ). 0 < n) ew p) in someone_at k same.1 c.0 c.1 c.2 c.3;
    full = λ a u e h. let f = now_full k same r a u h (entry a u e) in (f.0, ew ∙ f.1);
    home = λ z. let h = r.home (sym ew ∙ z) in (h.0, eh ∙ h.1);
    right = λ x e. r.right x (sym eh ∙ e);
  }

  -- the views stay fit
  fit_by : (n m : ℕ) → n ≡ m → (w_fit : IsFit n w) → ((a : ℕ) (u : View) → get_elem? s.views a ≡ some u → IsFit n u) → (a : ℕ) (u : View) → ((a ≡ id) × (w ≡ u)) ⊎ ((a ≢ id) × (get_elem? s.views a ≡ some u)) → IsFit m u
  fit_by n m e w_fit all a u (inl p) = subst (λ (q : ℕ × View). IsFit q.0 q.1) (λ i. (e i, p.1 i)) w_fit
  fit_by n m e w_fit all a u (inr p) = subst (λ (q : ℕ). IsFit q u) e (all a u p.1)

  pub still_fit : (m : ℕ) → length s.homes ≡ m → IsFit (length s.homes) w → ((a : ℕ) (u : View) → get_elem? s.views a ≡ some u → IsFit (length s.homes) u) → (a : ℕ) (u : View) → get_elem? (slice_set s.views id w) a ≡ some u → IsFit m u
  still_fit m e w_fit all a u got = fit_by (length s.homes) m e w_fit all a u (entry a u got)
