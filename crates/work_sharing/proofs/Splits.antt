-- A worker that knows nothing may come in.
use Rattle.std.proofs.Common.{◌≡◌, ℕ, List, [], ◌∷◌, ◌++◌, length, Option, sym, subst, ◌⊎◌, inl, inr}
use mathlib.Core.Option.{some}
use lib.ListN.{get_elem?}
use Rattle.atomic_table.specs.Table.{State, Splits}
use Rattle.atomic_table.proofs.Lists.{at_longer, at_snoc, set_again}
use Rattle.go_base.specs.Lists.{Has}
use Rattle.work_sharing.specs.declared.rule.View.{View}
use Rattle.work_sharing.specs.Rows.{Row, Holds, IsFit, empty_view}

module _ {T : Type 0} (good : ℕ → T → Type 0) (s : State (Option T) View) where
  -- who claims a row was there before
  was_there : (k a : ℕ) (u : View) → Has u.claimed k → (get_elem? s.views a ≡ some u) ⊎ (empty_view ≡ u) → get_elem? s.views a ≡ some u
  was_there k a u h (inl e) = e
  was_there k a u h (inr e) = absurd (subst (λ (y : View). Has y.claimed k) (sym e) h)

  had_filled : (k a : ℕ) (u : View) → Has u.filled k → (get_elem? s.views a ≡ some u) ⊎ (empty_view ≡ u) → get_elem? s.views a ≡ some u
  had_filled k a u h (inl e) = e
  had_filled k a u h (inr e) = absurd (subst (λ (y : View). Has y.filled k) (sym e) h)

  knows_none : (k a : ℕ) (u : View) → ((b : ℕ) (v : View) → get_elem? s.views b ≡ some v → (Has v.claimed k → ⊥) × (Has v.seen k → ⊥)) → (get_elem? s.views a ≡ some u) ⊎ (empty_view ≡ u) → (Has u.claimed k → ⊥) × (Has u.seen k → ⊥)
  knows_none k a u f (inl e) = f a u e
  knows_none k a u f (inr e) = subst (λ (y : View). (Has y.claimed k → ⊥) × (Has y.seen k → ⊥)) e ((λ h. h), (λ h. h))

  row_with_newcomer : (k : ℕ) → Row good s k → Row good (record { words = s.words; homes = s.homes; views = s.views ++ empty_view ∷ [] }) k
  row_with_newcomer k r = record {
    small = r.small;
    free = λ z. let f = r.free z in (f.0, λ a u e. knows_none k a u f.1 (at_snoc s.views empty_view u a e));
    one = λ a b x y ea eb ha hb. r.one a b x y (was_there k a x ha (at_snoc s.views empty_view x a ea)) (was_there k b y hb (at_snoc s.views empty_view y b eb)) ha hb;
    someone = λ p. let c = r.someone p in (c.0, c.1, at_longer s.views (empty_view ∷ []) c.0 c.1 c.2, c.3);
    full = λ a u e h. r.full a u (had_filled k a u h (at_snoc s.views empty_view u a e)) h;
    home = r.home;
    right = r.right;
  }

  fit_newcomer : (n a : ℕ) (u : View) → ((b : ℕ) (v : View) → get_elem? s.views b ≡ some v → IsFit n v) → (get_elem? s.views a ≡ some u) ⊎ (empty_view ≡ u) → IsFit n u
  fit_newcomer n a u f (inl e) = f a u e
  fit_newcomer n a u f (inr e) = subst (IsFit n) e (tt, (λ j h. absurd h), (λ j h. h))

  with_newcomer : Holds good s → Holds good (record { words = s.words; homes = s.homes; views = s.views ++ empty_view ∷ [] })
  with_newcomer h = record {
    same = h.same;
    rows = λ k lk. row_with_newcomer k (h.rows k lk);
    fit = λ a u e. fit_newcomer (length s.homes) a u h.fit (at_snoc s.views empty_view u a e);
  }

pub splits : {T : Type 0} (good : ℕ → T → Type 0) (id : ℕ) (v : View) → Splits (Holds good) id v v empty_view
splits {T} good id v s h here = subst (λ (vs : List View). Holds good (record { words = s.words; homes = s.homes; views = vs ++ empty_view ∷ [] })) (sym (set_again s.views id v here)) (with_newcomer good s h)
