-- Where all entries are had, a typing of a closed set has those of the set, and none of the set is lost.
use Rattle.std.proofs.Common.{◌≡◌, ℕ, zero, suc, ◌<◌, Bool, true, Some, sym, ap, ◌∙◌, subst, inl, inr, arith}
use Rattle.std.specs.Prelude.{slice_get}
use Rattle.go_typings.specs.Assignments.{Below, Within, before}
use Rattle.go_typings.specs.Declarations.{Declaration, declarations}
use Rattle.go_typings.specs.PackageEnvironments.{Entries, Entry}
use Rattle.go_typings.specs.Sources.{PackageSource, Setting}
use Rattle.go_typings.specs.Typings.{IsClosed as IsClosedSet, IsSound, Typing, given}
use Rattle.go_typings.proofs.Agree.{held, one_entry}
use Rattle.go_typings.proofs.Cells.{before_has, before_within, maybe, none_some, some_once}
use Rattle.go_typings.proofs.OneTyping.{grows, one}
use Rattle.go_soundness.specs.Apart.{IsApart}
use Rattle.go_soundness.specs.LostDeclarations.{IsLost, lost_without_entry, lost_without_rank, lost_by_length, lost_by_asks, lost_by_another}
use Rattle.go_soundness.specs.Ranks.{HasRank, ranked}
use Rattle.go_soundness.specs.Settled.{is_had, AreAll}
use Rattle.go_soundness.proofs.OverTyping.{asks_over, falls_over, straight_over, strong_kept}

module _ (s : Setting) (u : PackageSource) (a : Entries) (A : AreAll s u a) where
  -- a declaration that is given an entry has it
  has_given : (n : ℕ) (d : Declaration) (x : Entry) → slice_get (declarations u) n ≡ Some d → given s u a d x → a n ≡ Some x
  has_given n d x e g = elim (maybe (a n)) [
    | inl y ↦ (let k = A.had.below n (held (given s u) (grows s u) (one s u) (declarations u) (is_had a) a A.had n y.0 y.1) in
        let h = grows s u (before A.had.order (A.had.order n) a) a (before_within A.had.order (A.had.order n) a) k.0 k.2.0 k.2.2 in
        k.2.1 ∙ ap Some (one_entry (given s u) (grows s u) (one s u) (declarations u) a n k.0 d k.2.0 x k.1 e h g))
    | inr f ↦ absurd (A.stuck n f (d, e, (x, g)))
  ]

  module _ (S : ℕ → Bool) (b : Entries) (B : Below (given s u) (declarations u) S b) where
    filled_by : (k n : ℕ) → B.order n < k → S n ≡ true → (x : Entry) → b n ≡ Some x → a n ≡ Some x
    filled_by zero n l i x e = absurd (omega (arith, l))
    filled_by (suc k) n l i x e =
        let g = B.below n i in
        let h : Within (before B.order (B.order n) b) a = λ j y f. (let q = before_has B.order (B.order n) b j y f in let o = q.0 in filled_by k j (omega (arith, o, l)) (held (given s u) (grows s u) (one s u) (declarations u) S b B j y q.1) y q.1) in
        has_given n g.0 x g.1 (subst (given s u a g.0) (some_once g.2.0 x (sym g.2.1 ∙ e)) (grows s u (before B.order (B.order n) b) a h g.0 g.2.0 g.2.2))

    -- entries of some declarations are among all
    pub all_within : Within b a
    all_within n x e = filled_by (suc (B.order n)) n (omega arith) (held (given s u) (grows s u) (one s u) (declarations u) S b B n x e) x e

    pub same_entries : (n : ℕ) → S n ≡ true → b n ≡ a n
    same_entries n i = let g = B.below n i in g.2.1 ∙ sym (all_within n g.2.0 g.2.1)

  module _ (apart : IsApart s u) (S : ℕ → Bool) (b : Entries) (T : Typing s u S b) (closed : IsClosedSet s u S) where
    within : Within b a
    within = all_within S b T.had

    has_rank : (r n : ℕ) → T.rank n < r → S n ≡ true → HasRank s u a n
    has_rank zero n l i = absurd (omega (arith, l))
    has_rank (suc r) n l i = ranked (λ m k. let f = falls_over s u apart S closed b T a within n m i k in has_rank r m (omega (arith, f, l)) (strong_kept s u apart S closed b T a within n m i k))

    pub not_lost : {n : ℕ} → IsLost s u a n → S n ≡ true → ⊥
    not_lost (lost_without_entry {n = n} l e) i = let g = T.had.below n i in none_some (a n) g.2.0 e (within n g.2.0 g.2.1)
    not_lost (lost_without_rank {n = n} h) i = h (has_rank (suc (T.rank n)) n (omega arith) i)
    not_lost (lost_by_length {m = m} n h r) i = straight_over s u apart S closed b T a within m n i h r
    not_lost (lost_by_asks {n = n} l h) i = h (asks_over s u apart S closed b T a within n i)
    not_lost (lost_by_another {m = m} n h r) i = not_lost r (closed m n i h)

-- there is one assignment of all entries
pub all_once : (s : Setting) (u : PackageSource) (a b : Entries) → AreAll s u a → AreAll s u b → (n : ℕ) → a n ≡ b n
all_once s u a b A B n = elim (maybe (a n)) [
  | inl x ↦ x.1 ∙ sym (all_within s u b B (is_had a) a A.had n x.0 x.1)
  | inr e ↦ elim (maybe (b n)) [ inl y ↦ none_some (a n) y.0 e (all_within s u a A (is_had b) b B.had n y.0 y.1) | inr f ↦ e ∙ sym f ]
]

pub lost_unsound : (s : Setting) (u : PackageSource) (a : Entries) (n : ℕ) → IsApart s u → AreAll s u a → IsLost s u a n → IsSound s u n → ⊥
lost_unsound s u a n apart A l k = not_lost s u a A apart k.within k.entries k.typing k.closed l k.holds
