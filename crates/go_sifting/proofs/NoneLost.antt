-- Where all declarations stand and have a rank, and no length leads back, none is lost.
use Rattle.std.proofs.Common.{◌≡◌, ℕ, zero, suc, ◌<◌, Bool, true, false, List, [], length, replicate, refl, sym, ap, ◌∙◌, inl, inr, arith}
use Rattle.std.proofs.lemmas.Option.{slice_get_within}
use Rattle.go_base.specs.Lists.{Has}
use Rattle.go_graphs.specs.Flags.{AreFlagsOf, is_flagged}
use Rattle.go_graphs.specs.Ranks.{FallsAlong, HasRank as HasRankIn}
use Rattle.go_graphs.specs.Walks.{LeadsTo as LeadsAlong, is_end, leads_by}
use Rattle.go_graphs.proofs.FallingRanks.{ranks_fall}
use Rattle.go_graphs.proofs.Flagging.{apart, either}
use Rattle.go_typings.specs.Declarations.{declarations}
use Rattle.go_typings.specs.PackageEnvironments.{Entries}
use Rattle.go_typings.specs.References.{LeadsTo, leads_here, leads_by_name, leads_by_method}
use Rattle.go_typings.specs.Sources.{PackageSource, Setting}
use Rattle.go_soundness.specs.LostDeclarations.{HasInLength}
use Rattle.go_soundness.specs.Ranks.{ComesAfter}
use Rattle.go_soundness.specs.Settled.{AreSifted}
use Rattle.go_sifting.specs.Graphs.{Stands}
use Rattle.go_sifting.specs.Orders.{IsOrderOf, IsSettled}
use Rattle.go_sifting.specs.declared.order.DeclarationOrder.{DeclarationOrder}

-- ---- flags that are all set, or all unset

all_set : (k n : ℕ) → n < k → is_flagged (replicate k true) n ≡ true
all_set zero n l = absurd (omega (arith, l))
all_set (suc k) zero l = refl
all_set (suc k) (suc n) l = all_set k n (omega (arith, l))

set_within : (k n : ℕ) → is_flagged (replicate k true) n ≡ true → n < k
set_within zero n e = apart (sym e)
set_within (suc k) zero e = omega arith
set_within (suc k) (suc n) e = let r = set_within k n e in omega (arith, r)

as_many : {A : Type 0} (k : ℕ) (x : A) → length (replicate k x) ≡ k
as_many zero x = refl
as_many (suc k) x = ap suc (as_many k x)

-- flags of no number are all unset
pub none_set : (k : ℕ) (flags : List Bool) → AreFlagsOf k (Has {A = ℕ} []) flags → (n : ℕ) → is_flagged flags n ≡ false
none_set k flags are n = elim (either (is_flagged flags n)) [ inl e ↦ absurd (are.sound n e) | inr e ↦ e ]

flags_of_all : (k : ℕ) (P : ℕ → Type 0) → ((n : ℕ) → n < k → P n) → AreFlagsOf k P (replicate k true)
flags_of_all k P all = record { size = as_many k true; sound = λ n e. all n (set_within k n e); complete = λ n l p. all_set k n l }

-- ---- none is lost

module _
    (s : Setting) (u : PackageSource) (a : Entries) (o : DeclarationOrder) (standing lost : List Bool)
    (order : IsOrderOf s u a o)
    (stand : AreFlagsOf (length (declarations u)) (Stands s u a) standing)
    (settled : IsSettled o standing)
    (none : (n : ℕ) → is_flagged lost n ≡ false) where
  abbrev count : ℕ
  count = length (declarations u)

  stands : (n : ℕ) → n < count → Stands s u a n
  stands n l = let q = stand.size in stand.sound n (settled.stand n (omega (arith, l, q)))

  falling : (rank : ℕ → ℕ) × FallsAlong o.after (is_flagged (replicate (length o.after) true)) rank
  falling = ranks_fall o.after (replicate (length o.after) true) (flags_of_all (length o.after) (HasRankIn o.after) settled.ranked)

  falls : (m n : ℕ) → ComesAfter s u a m n → falling.0 n < falling.0 m
  falls m n h =
      let l = slice_get_within (declarations u) m h.0 h.1 in
      let q = order.after.size in
      falling.1 m n (all_set (length o.after) m (omega (arith, l, q))) ((order.after.exact m n).1 h)

  -- from where it is told where steps lead, a way is one along the rows
  leads_along : {m n : ℕ} → is_flagged o.reached.items m ≡ true → LeadsTo s u a m n → LeadsAlong o.leads.items m n
  leads_along e leads_here = is_end (inl refl)
  leads_along {m = m} e (leads_by_name k p r) = let h = (order.leads.exact m k e).1 (inl p) in leads_by k h (leads_along (settled.lengths.closed m k h) r)
  leads_along {m = m} e (leads_by_method k p r) = let h = (order.leads.exact m k e).1 (inr p) in leads_by k h (leads_along (settled.lengths.closed m k h) r)

  no_length_back : (m n : ℕ) → HasInLength s u a m n → LeadsTo s u a n m → ⊥
  no_length_back m n h r =
      let l = slice_get_within (declarations u) m h.0 h.1 in
      let q = order.leads.size in
      let i = (order.lengths.exact m n).1 h in
      settled.lengths.straight m (omega (arith, l, q)) (n, i, leads_along (settled.lengths.starts m n i) r)

  pub none_sifted : AreSifted s u a (is_flagged lost)
  none_sifted = record {
    marked = λ n l e. apart (sym e ∙ none n);
    entered = λ n l e. (let k = stands n l in (k.entry, k.had));
    rank = falling.0;
    falls = λ m n e h. falls m n h;
    straight = λ m n e h r. no_length_back m n h r;
    meets = λ n l e. (stands n l).meets;
    closed = λ m n e h. none n;
  }
