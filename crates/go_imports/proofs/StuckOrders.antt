-- Where no package is ready and not all stand, some package is on a cycle.
use Rattle.std.proofs.Common.{◌⊎◌, ℕ, zero, suc, ◌+◌, ◌<◌, List, [], ◌∷◌, length, refl, subst, inl, inr, arith}
use Rattle.go_base.specs.Lists.{Has, Once}
use Rattle.go_imports.specs.Orders.{IsGraph, needs_of, IsReady, LeadsTo, directly, IsOnCycle}
use Rattle.go_imports.proofs.Cycles.{leads_one}
use Rattle.go_imports.proofs.Members.{same_or}
use Rattle.go_imports.proofs.Pigeonholes.{short}

has_or : (xs : List ℕ) (n : ℕ) → Has xs n ⊎ (Has xs n → ⊥)
has_or [] n = inr (λ h. h)
has_or (x ∷ xs) n = elim (same_or x n) [
  | inl e ↦ inl (inl e)
  | inr d ↦ elim (has_or xs n) [ inl h ↦ inl (inr h) | inr never ↦ inr (λ h. elim h [ inl e ↦ d e | inr k ↦ never k ]) ]
]

module _ (graph : List (List ℕ)) (standing : List ℕ) where
  -- one of the packages doesn't stand, or all do
  lacking_or : (ns : List ℕ) → ((m : ℕ) × Has ns m × (Has standing m → ⊥)) ⊎ ((m : ℕ) → Has ns m → Has standing m)
  lacking_or [] = inr (λ m h. absurd h)
  lacking_or (n ∷ ns) = elim (has_or standing n) [
    | inr never ↦ inl (n, inl refl, never)
    | inl here ↦ elim (lacking_or ns) [
      | inl p ↦ inl (p.0, inr p.1, p.2)
      | inr all ↦ inr (λ m h. elim h [ inl e ↦ subst (Has standing) e here | inr k ↦ all m k ])
    ]
  ]

  module _ (is_graph : IsGraph graph) (stuck : (n : ℕ) → IsReady graph standing n → ⊥) where
    -- a package that doesn't stand needs another one that doesn't
    lacks : (n : ℕ) → n < length graph → (Has standing n → ⊥) → (m : ℕ) × Has (needs_of graph n) m × (Has standing m → ⊥)
    lacks n h fresh = elim (lacking_or (needs_of graph n)) [ inl p ↦ p | inr all ↦ absurd (stuck n (record { is = h; fresh = fresh; met = all })) ]

    -- packages that lead to one another without end come back to one of them
    chase : (fuel : ℕ) (seen : List ℕ) (n : ℕ) → Once seen → ((x : ℕ) → Has seen x → x < length graph) → ((x : ℕ) → Has seen x → LeadsTo graph x n)
        → n < length graph → (Has standing n → ⊥) → length graph < fuel + length seen → ((m : ℕ) → IsOnCycle graph m → ⊥) → ⊥
    chase zero seen n once below leads h fresh long acyclic = absurd (let l = short (length graph) seen once below in omega (arith, l, long))
    chase (suc fuel) seen n once below leads h fresh long acyclic = elim (has_or seen n) [
      | inl back ↦ acyclic n (leads n back)
      | inr new ↦ (
          let p = lacks n h fresh in
          chase fuel (n ∷ seen) p.0 (new, once) (λ x k. elim k [ inl e ↦ subst (λ (w : ℕ). w < length graph) e h | inr k ↦ below x k ])
          (λ x k. elim k [ inl e ↦ subst (λ (w : ℕ). LeadsTo graph w p.0) e (directly p.1) | inr k ↦ leads_one graph (leads x k) p.1 ])
          (is_graph n p.0 p.1) p.2 (omega (arith, long)) acyclic
          )
    ]

    pub stuck_on_cycle : (n : ℕ) → n < length graph → (Has standing n → ⊥) → ((m : ℕ) → IsOnCycle graph m → ⊥) → ⊥
    stuck_on_cycle n h fresh acyclic = chase (suc (length graph)) [] n tt (λ x k. absurd k) (λ x k. absurd k) h fresh (omega arith) acyclic
