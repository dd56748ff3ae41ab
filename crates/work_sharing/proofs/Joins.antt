-- One worker may take over what another one knows.
use Rattle.std.proofs.Common.{◌≡◌, ◌≢◌, ℕ, List, [], ◌∷◌, ◌++◌, length, Option, refl, sym, ap, ◌∙◌, subst, ◌⊎◌, inl, inr}
use Rattle.std.specs.Prelude.{slice_set, slice_index}
use mathlib.Core.Option.{some}
use lib.ListN.{get_elem?}
use Rattle.atomic_table.specs.Table.{State, Joins}
use Rattle.atomic_table.proofs.Lists.{at_set, set_here, set_else}
use Rattle.go_base.specs.Lists.{Has, Once}
use Rattle.go_base.proofs.Members.{has_split}
use Rattle.work_sharing.specs.declared.rule.View.{View}
use Rattle.work_sharing.specs.Rows.{Row, Holds, IsFit, joined, empty_view}
use Rattle.work_sharing.specs.Results.{IsDone}
use Rattle.work_sharing.proofs.Rows.{below, by_eq, some_eq}

has_front : (xs ys : List ℕ) (k : ℕ) → Has xs k → Has (xs ++ ys) k
has_front [] ys k h = absurd h
has_front (x ∷ xs) ys k (inl e) = inl e
has_front (x ∷ xs) ys k (inr h) = inr (has_front xs ys k h)

has_back : (xs ys : List ℕ) (k : ℕ) → Has ys k → Has (xs ++ ys) k
has_back [] ys k h = h
has_back (x ∷ xs) ys k h = inr (has_back xs ys k h)

once_both : (xs ys : List ℕ) → Once xs → Once ys → ((k : ℕ) → Has xs k → Has ys k → ⊥) → Once (xs ++ ys)
once_both [] ys a b apart = b
once_both (x ∷ xs) ys a b apart = ((λ h. elim (has_split xs ys x h) [ inl k ↦ a.0 k | inr k ↦ apart x (inl refl) k ]), once_both xs ys a.1 b (λ k h. apart k (inr h)))

module _ {T : Type 0} (good : ℕ → T → Type 0) (s : State (Option T) View) (id other : ℕ) (v w : View) (here : get_elem? s.views id ≡ some v) (apart : other ≢ id) (there : get_elem? s.views other ≡ some w) where
  -- an entry of the new views is the spent one, the joined one or another
  abbrev Entry : ℕ → View → Type 0
  Entry a u = ((a ≡ other) × (empty_view ≡ u)) ⊎ (((a ≡ id) × (joined v w ≡ u)) ⊎ ((a ≢ other) × (a ≢ id) × (get_elem? s.views a ≡ some u)))

  first_entry : (a : ℕ) (u : View) → a ≢ other → ((a ≡ id) × (joined v w ≡ u)) ⊎ ((a ≢ id) × (get_elem? s.views a ≡ some u)) → Entry a u
  first_entry a u ne (inl p) = inr (inl p)
  first_entry a u ne (inr p) = inr (inr (ne, p.0, p.1))

  entry_of : (a : ℕ) (u : View) → ((a ≡ other) × (empty_view ≡ u)) ⊎ ((a ≢ other) × (get_elem? (slice_set s.views id (joined v w)) a ≡ some u)) → Entry a u
  entry_of a u (inl p) = inl p
  entry_of a u (inr p) = first_entry a u p.0 (at_set s.views id a (joined v w) u p.1)

  entry : (a : ℕ) (u : View) → get_elem? (slice_set (slice_set s.views id (joined v w)) other empty_view) a ≡ some u → Entry a u
  entry a u e = entry_of a u (at_set (slice_set s.views id (joined v w)) other a empty_view u e)

  -- who claims a row now, and who claimed it before
  abbrev Origin : ℕ → ℕ → Type 0
  Origin a k = (b : ℕ) × (x : View) × (get_elem? s.views b ≡ some x) × Has x.claimed k × (((a ≡ id) × ((b ≡ id) ⊎ (b ≡ other))) ⊎ ((a ≡ b) × (a ≢ id) × (a ≢ other)))

  of_both : (a k : ℕ) → a ≡ id → Has v.claimed k ⊎ Has w.claimed k → Origin a k
  of_both a k e (inl h) = (id, v, here, h, inl (e, inl refl))
  of_both a k e (inr h) = (other, w, there, h, inl (e, inr refl))

  origin : (a : ℕ) (u : View) (k : ℕ) → Entry a u → Has u.claimed k → Origin a k
  origin a u k (inl p) h = absurd (subst (λ (y : View). Has y.claimed k) (sym p.1) h)
  origin a u k (inr (inl p)) h = of_both a k p.0 (has_split v.claimed w.claimed k (subst (λ (y : View). Has y.claimed k) (sym p.1) h))
  origin a u k (inr (inr p)) h = (a, u, p.2, h, inr (refl, p.1, p.0))

  joined_apart : (a b c d : ℕ) → c ≡ d → (c ≡ id) ⊎ (c ≡ other) → b ≡ d → b ≢ id → b ≢ other → a ≡ b
  joined_apart a b c d e (inl r) q n m = absurd (n (q ∙ sym e ∙ r))
  joined_apart a b c d e (inr r) q n m = absurd (m (q ∙ sym e ∙ r))

  apart_joined : (a b c d : ℕ) → c ≡ d → a ≡ c → a ≢ id → a ≢ other → (d ≡ id) ⊎ (d ≡ other) → a ≡ b
  apart_joined a b c d e p n m (inl r) = absurd (n (p ∙ e ∙ r))
  apart_joined a b c d e p n m (inr r) = absurd (m (p ∙ e ∙ r))

  same_owner : (a b c d : ℕ) → c ≡ d → ((a ≡ id) × ((c ≡ id) ⊎ (c ≡ other))) ⊎ ((a ≡ c) × (a ≢ id) × (a ≢ other)) → ((b ≡ id) × ((d ≡ id) ⊎ (d ≡ other))) ⊎ ((b ≡ d) × (b ≢ id) × (b ≢ other)) → a ≡ b
  same_owner a b c d e (inl p) (inl q) = p.0 ∙ sym q.0
  same_owner a b c d e (inl p) (inr q) = joined_apart a b c d e p.1 q.0 q.1 q.2
  same_owner a b c d e (inr p) (inl q) = apart_joined a b c d e p.0 p.1 p.2 q.1
  same_owner a b c d e (inr p) (inr q) = p.0 ∙ e ∙ sym q.0

  both_there : get_elem? (slice_set (slice_set s.views id (joined v w)) other empty_view) id ≡ some (joined v w)
  both_there = set_else (slice_set s.views id (joined v w)) other id empty_view (λ e. apart (sym e)) ∙ set_here s.views id (joined v w) (below s.views id v here)

  someone_at : (k a : ℕ) (u : View) → get_elem? s.views a ≡ some u → Has u.claimed k → (b : ℕ) × (x : View) × (get_elem? (slice_set (slice_set s.views id (joined v w)) other empty_view) b ≡ some x) × Has x.claimed k
  someone_at k a u e h = by_eq a id _
      (λ q. (id, joined v w, both_there, has_front v.claimed w.claimed k (subst (λ (y : View). Has y.claimed k) (some_eq u v (sym e ∙ ap (get_elem? s.views) q ∙ here)) h)))
      (λ n. by_eq a other _
      (λ q. (id, joined v w, both_there, has_back v.claimed w.claimed k (subst (λ (y : View). Has y.claimed k) (some_eq u w (sym e ∙ ap (get_elem? s.views) q ∙ there)) h)))
      (λ m. (a, u, set_else (slice_set s.views id (joined v w)) other a empty_view m ∙ (set_else s.views id a (joined v w) n ∙ e), h)))

  module _ (k : ℕ) (r : Row good s k) where
    knows_none : slice_index s.words k ≡ 0 → (a : ℕ) (u : View) → Entry a u → (Has u.claimed k → ⊥) × (Has u.seen k → ⊥)
    knows_none z a u (inl p) = subst (λ (y : View). (Has y.claimed k → ⊥) × (Has y.seen k → ⊥)) p.1 ((λ h. h), (λ h. h))
    knows_none z a u (inr (inl p)) =
        let f = (r.free z).1 id v here in
        let g = (r.free z).1 other w there in
        subst (λ (y : View). (Has y.claimed k → ⊥) × (Has y.seen k → ⊥)) p.1
        ((λ h. elim (has_split v.claimed w.claimed k h) [ inl x ↦ f.0 x | inr x ↦ g.0 x ]), (λ h. elim (has_split v.seen w.seen k h) [ inl x ↦ f.1 x | inr x ↦ g.1 x ]))
    knows_none z a u (inr (inr p)) = (r.free z).1 a u p.2

    full_both : Has v.filled k ⊎ Has w.filled k → Has (v.claimed ++ w.claimed) k × (slice_index s.words k ≡ 2)
    full_both (inl h) = let f = r.full id v here h in (has_front v.claimed w.claimed k f.0, f.1)
    full_both (inr h) = let f = r.full other w there h in (has_back v.claimed w.claimed k f.0, f.1)

    now_full : (a : ℕ) (u : View) → Entry a u → Has u.filled k → Has u.claimed k × (slice_index s.words k ≡ 2)
    now_full a u (inl p) h = absurd (subst (λ (y : View). Has y.filled k) (sym p.1) h)
    now_full a u (inr (inl p)) h = subst (λ (y : View). Has y.claimed k × (slice_index s.words k ≡ 2)) p.1 (full_both (has_split v.filled w.filled k (subst (λ (y : View). Has y.filled k) (sym p.1) h)))
    now_full a u (inr (inr p)) h = r.full a u p.2 h

    joined_row : Row good (record { words = s.words; homes = s.homes; views = slice_set (slice_set s.views id (joined v w)) other empty_view }) k
    joined_row = record {
      small = r.small;
      free = λ z. ((r.free z).0, λ a u e. knows_none z a u (entry a u e));
      one = λ a b x y ea eb ha hb.
          let p = origin a x k (entry a x ea) ha in
          let q = origin b y k (entry b y eb) hb in
          same_owner a b p.0 q.0 (r.one p.0 q.0 p.1 q.1 p.2 q.2 p.3 q.3) p.4 q.4;
      someone = λ p. let c = r.someone p in someone_at k c.0 c.1 c.2 c.3;
      full = λ a u e h. now_full a u (entry a u e) h;
      home = r.home;
      right = r.right;
    }

  fit_both : Holds good s → IsFit (length s.homes) (joined v w)
  fit_both h =
      let f = h.fit id v here in
      let g = h.fit other w there in (
        once_both v.claimed w.claimed f.0 g.0 (λ k a b. apart (sym ((h.rows k (f.1 k a)).one id other v w here there a b))),
        (λ k a. elim (has_split v.claimed w.claimed k a) [ inl x ↦ f.1 k x | inr x ↦ g.1 k x ]),
        (λ k a. elim (has_split v.filled w.filled k a) [ inl x ↦ has_front v.claimed w.claimed k (f.2 k x) | inr x ↦ has_back v.claimed w.claimed k (g.2 k x) ]),
      )

  fit_entry : Holds good s → (a : ℕ) (u : View) → Entry a u → IsFit (length s.homes) u
  fit_entry h a u (inl p) = subst (IsFit (length s.homes)) p.1 (tt, (λ j k. absurd k), (λ j k. k))
  fit_entry h a u (inr (inl p)) = subst (IsFit (length s.homes)) p.1 (fit_both h)
  fit_entry h a u (inr (inr p)) = h.fit a u p.2

  joined_rows : Holds good s → Holds good (record { words = s.words; homes = s.homes; views = slice_set (slice_set s.views id (joined v w)) other empty_view })
  joined_rows h = record {
    same = h.same;
    rows = λ k lk. joined_row k (h.rows k lk);
    fit = λ a u e. fit_entry h a u (entry a u e);
  }

pub joins : {T : Type 0} (good : ℕ → T → Type 0) (id other : ℕ) (v w : View) → Joins (Holds good) id v other w (joined v w) empty_view
joins {T} good id other v w s h here apart there = joined_rows good s id other v w here apart (sym (set_else s.views id other (joined v w) apart) ∙ there) h

-- where each of the two has filled what it claims, so have both together
pub done_both : (v w : View) → IsDone v → IsDone w → IsDone (joined v w)
done_both v w a b k h = elim (has_split v.claimed w.claimed k h) [ inl x ↦ has_front v.filled w.filled k (a k x) | inr x ↦ has_back v.filled w.filled k (b k x) ]
