-- Levels that never rise, each connected within, tell which numbers lead to which.
use Rattle.std.proofs.Common.{◌≡◌, ℕ, ◌<◌, ◌≤◌, List, length, get_or, refl, sym, ap, ◌∙◌, subst, inl, inr, arith}
use Rattle.go_base.specs.Lists.{Has}
use Rattle.go_graphs.specs.Walks.{LeadsInto, LeadsTo, is_end, leads_by}
use Rattle.go_graphs.specs.inner.Components.{AreRoots, IsLedTo, LeadsWithin, NeverRises, StaysWithin, TurnsRound, level_of}
use Rattle.go_graphs.proofs.Leading.{row_within}

-- ---- walks

pub itself : {rows : List (List ℕ)} (n : ℕ) → LeadsTo rows n n
itself n = is_end (inl refl)

pub leads_then : {rows : List (List ℕ)} {ends : List ℕ} (m : ℕ) {n : ℕ} → LeadsTo rows n m → LeadsInto rows ends m → LeadsInto rows ends n
leads_then {rows = rows} {ends = ends} m (is_end (inl e)) w = subst (LeadsInto rows ends) e w
leads_then m (is_end (inr z)) w = absurd z
leads_then m (leads_by k h v) w = leads_by k h (leads_then m v w)

-- a walk into a set is one to a member of it
pub to_one : {rows : List (List ℕ)} {ends : List ℕ} {n : ℕ} → LeadsInto rows ends n → (r : ℕ) × Has ends r × LeadsTo rows n r
to_one {n = n} (is_end h) = (n, h, itself n)
to_one (leads_by m h w) = let k = to_one w in (k.0, k.1, leads_by m h k.2)

-- from past the rows nothing leads anywhere else
pub leads_past : {rows : List (List ℕ)} {n m : ℕ} → length rows ≤ n → m < length rows → LeadsTo rows n m → ⊥
leads_past l h (is_end (inl e)) = absurd (omega (arith, l, h, e))
leads_past l h (is_end (inr z)) = z
leads_past {rows = rows} {n = n} l h (leads_by k i w) = let j = row_within rows n k i in absurd (omega (arith, j, l))

-- a walk along rows that are turned round, backwards
pub led_to : {rows turned : List (List ℕ)} {ends : List ℕ} {n : ℕ} → TurnsRound rows turned → LeadsInto turned ends n → IsLedTo rows ends n
led_to {n = n} t (is_end h) = (n, h, itself n)
led_to {n = n} t (leads_by m h w) = let k = led_to t w in (k.0, k.1, leads_then m k.2 (leads_by n (t.step n m h) (itself n)))

module _ (rows : List (List ℕ)) (levels : List ℕ) where
  pub no_higher : NeverRises rows levels → {m n : ℕ} → LeadsTo rows n m → level_of levels m ≤ level_of levels n
  no_higher f {n = n} (is_end (inl e)) = let p = ap (level_of levels) e in omega (arith, p)
  no_higher f (is_end (inr z)) = absurd z
  no_higher f {n = n} (leads_by k h w) = let a = f n k h in let b = no_higher f w in omega (arith, a, b)

  module _ (inner : List (List ℕ)) (s : StaysWithin rows levels inner) where
    of_rows : {r n : ℕ} → LeadsTo inner n r → LeadsTo rows n r × (level_of levels r ≡ level_of levels n)
    of_rows (is_end (inl e)) = (is_end (inl e), ap (level_of levels) e)
    of_rows (is_end (inr z)) = absurd z
    of_rows {n = n} (leads_by k h w) = let p = s.step n k h in let q = of_rows w in (leads_by k p.0 q.0, q.1 ∙ p.1)

    module _ (by_level roots : List ℕ) (are : AreRoots rows levels by_level roots)
        (joined : (n : ℕ) → n < length inner → LeadsInto inner roots n × IsLedTo inner roots n) where
      one_root : (r q : ℕ) → Has roots r → Has roots q → level_of levels r ≡ level_of levels q → r ≡ q
      one_root r q h k e = sym (are.root r h) ∙ ap (λ l. get_or by_level l 0) e ∙ are.root q k

      pub leads_within : LeadsWithin rows levels
      leads_within n m l k e =
          let z = s.size in
          let out = to_one (joined n (omega (arith, l, z))).0 in
          let back = (joined m (omega (arith, k, z))).1 in
          let there = of_rows out.2 in
          let here = of_rows back.2 in
          leads_then out.0 there.0 (subst (λ (r : ℕ). LeadsTo rows r m) (sym (one_root out.0 back.0 out.1 back.1 (there.1 ∙ e ∙ here.1))) here.0)
