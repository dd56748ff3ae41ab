-- Packages have at most one canonical order, and one with no cycle.
use Rattle.std.proofs.Common.{◌≡◌, ℕ, ◌+◌, ◌<◌, List, [], ◌∷◌, ◌++◌, length, refl, sym, subst, inl, inr, arith, length-append}
use Rattle.go_base.specs.Lists.{Has}
use Rattle.go_imports.specs.Orders.{needs_of, IsOrder, none, next, IsCanonical, IsNext, LeadsTo, directly, through, IsOnCycle}
use Rattle.go_imports.proofs.Members.{has_back, below_or}
use Rattle.go_imports.proofs.Sorted.{order_closed}

longer_by : (xs : List ℕ) (n : ℕ) → length (xs ++ n ∷ []) ≡ length xs + 1
longer_by xs n = omega (arith, length-append xs (n ∷ []))

module _ (graph : List (List ℕ)) where
  order_at : {a b : List ℕ} → IsOrder graph a → IsOrder graph b → length a ≡ length b → a ≡ b
  order_at none none e = refl
  order_at none (next {standing = s} {n = n} o i) e = absurd (omega (arith, e, longer_by s n))
  order_at (next {standing = s} {n = n} o i) none e = absurd (omega (arith, e, longer_by s n))
  order_at (next {standing = s} {n = n} o i) (next {standing = t} {n = m} p j) e =
      let before : s ≡ t = order_at o p (omega (arith, e, longer_by s n, longer_by t m)) in
      let there = subst (λ (w : List ℕ). IsNext graph w n) before i in
      let same : n ≡ m = omega (arith, there.least m j.ready, j.least n there.ready) in
      (λ k. before k ++ same k ∷ [])

  never_longer : {a b : List ℕ} → IsOrder graph a → ((n : ℕ) → n < length graph → Has a n) → IsOrder graph b → length a < length b → ⊥
  never_longer o all none less = omega (arith, less)
  never_longer {a = a} o all (next {standing = s} {n = n} p i) less = elim (below_or (length a) (length s)) [
    | inl more ↦ never_longer o all p more
    | inr rest ↦
        let same : a ≡ s = order_at o p (omega (arith, rest, less, longer_by s n)) in
        i.ready.fresh (subst (λ (w : List ℕ). Has w n) same (all n i.ready.is))
  ]

  pub one_canonical : (a b : List ℕ) → IsCanonical graph a → IsCanonical graph b → a ≡ b
  one_canonical a b c d = elim (below_or (length a) (length b)) [
    | inl less ↦ absurd (never_longer c.ordered c.all d.ordered less)
    | inr rest ↦ elim (below_or (length b) (length a)) [
      | inl less ↦ absurd (never_longer d.ordered d.all c.ordered less)
      | inr more ↦ order_at c.ordered d.ordered (omega (arith, rest, more))
    ]
  ]

  leads_closed : {standing : List ℕ} → IsOrder graph standing → {m n : ℕ} → Has standing m → LeadsTo graph m n → Has standing n
  leads_closed o h (directly {m = m} {n = n} k) = order_closed graph o m n h k
  leads_closed o h (through {k = k} {m = m} g l) = leads_closed o (order_closed graph o k m h g) l

  from_met : {standing : List ℕ} {n m : ℕ} → IsOrder graph standing → ((k : ℕ) → Has (needs_of graph n) k → Has standing k) → LeadsTo graph n m → Has standing m
  from_met o met (directly {n = m} k) = met m k
  from_met o met (through {m = m} g l) = leads_closed o (met m g) l

  no_cycle : {standing : List ℕ} → IsOrder graph standing → (n : ℕ) → Has standing n → IsOnCycle graph n → ⊥
  no_cycle none n h c = h
  no_cycle (next {standing = s} {n = a} o i) n h c = elim (has_back s a n h) [
    | inl old ↦ no_cycle o n old c
    | inr e ↦ i.ready.fresh (from_met o i.ready.met (subst (IsOnCycle graph) (sym e) c))
  ]

  pub canonical_acyclic : (order : List ℕ) (n : ℕ) → IsCanonical graph order → n < length graph → IsOnCycle graph n → ⊥
  canonical_acyclic order n c below on = no_cycle c.ordered n (c.all n below) on
