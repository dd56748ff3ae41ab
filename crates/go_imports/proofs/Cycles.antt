-- A package is on a cycle where it leads to itself on its own level.
use Rattle.std.proofs.Common.{◌≡◌, ℕ, zero, suc, ◌+◌, ◌<◌, ◌≤◌, Bool, true, false, cond, List, [], ◌∷◌, length, nat_eq, refl, ap, ◌∙◌, subst, ◌⊎◌, inl, inr, arith, take, get_or, add-one}
use Rattle.std.proofs.lemmas.Bool.Decides.{nat_tests}
use Rattle.go_base.specs.Lists.{Has}
use Rattle.go_imports.specs.Orders.{needs_of, LeadsTo, directly, through, IsOnCycle, IsLeastOnCycle}
use Rattle.go_imports.specs.inner.Levels.{Falls, Reached, seed, edge, at_level}
use Rattle.go_imports.proofs.Members.{below_or}

at_by : (levels : List ℕ) (level x : ℕ) (xs ws : List ℕ) (n : ℕ) (b : Bool) → nat_eq (get_or levels x 0) level ≡ b → (Has ws n → Has xs n) → Has (cond b (x ∷ ws) ws) n → Has (x ∷ xs) n
at_by levels level x xs ws n true e f (inl k) = inl k
at_by levels level x xs ws n true e f (inr k) = inr (f k)
at_by levels level x xs ws n false e f k = inr (f k)

of_level : (levels : List ℕ) (level : ℕ) (xs : List ℕ) (n : ℕ) → Has (at_level levels level xs) n → Has xs n
of_level levels level [] n h = absurd h
of_level levels level (x ∷ xs) n h = at_by levels level x xs (at_level levels level xs) n (nat_eq (get_or levels x 0) level) refl (of_level levels level xs n) h

level_by : (levels : List ℕ) (level x : ℕ) (xs ws : List ℕ) (n : ℕ) (b : Bool) → nat_eq (get_or levels x 0) level ≡ b → get_or levels n 0 ≡ level → (Has xs n → Has ws n) → Has (x ∷ xs) n → Has (cond b (x ∷ ws) ws) n
level_by levels level x xs ws n true e l f (inl k) = inl k
level_by levels level x xs ws n true e l f (inr k) = inr (f k)
level_by levels level x xs ws n false e l f (inl k) = let g : get_or levels x 0 ≡ level = ap (λ m. get_or levels m 0) k ∙ l in absurd (grind (arith, nat_tests, e, g))
level_by levels level x xs ws n false e l f (inr k) = f k

on_level : (levels : List ℕ) (level : ℕ) (xs : List ℕ) (n : ℕ) → Has xs n → get_or levels n 0 ≡ level → Has (at_level levels level xs) n
on_level levels level [] n h l = absurd h
on_level levels level (x ∷ xs) n h l = level_by levels level x xs (at_level levels level xs) n (nat_eq (get_or levels x 0) level) refl l (λ k. on_level levels level xs n k l) h

module _ (graph : List (List ℕ)) where
  pub leads_one : {k m n : ℕ} → LeadsTo graph k m → Has (needs_of graph m) n → LeadsTo graph k n
  leads_one (directly g) h = through g (directly h)
  leads_one (through g k) h = through g (leads_one k h)

  module _ (levels : List ℕ) where
    never_rises : Falls graph levels → {m n : ℕ} → LeadsTo graph m n → get_or levels n 0 ≤ get_or levels m 0
    never_rises f (directly {m = m} {n = n} h) = f m n h
    never_rises f (through {k = k} {m = m} h r) = let a = f k m h in let b = never_rises f r in omega (arith, a, b)

    module _ (level from : ℕ) where
      abbrev near : ℕ → List ℕ
      near m = at_level levels level (needs_of graph m)

      pub reached_leads : {n : ℕ} → Reached near (near from) n → LeadsTo graph from n
      reached_leads (seed n h) = directly (of_level levels level (needs_of graph from) n h)
      reached_leads (edge m n r h) = leads_one (reached_leads r) (of_level levels level (needs_of graph m) n h)

      from_reached : Falls graph levels → {m n : ℕ} → Reached near (near from) m → get_or levels m 0 ≡ level → get_or levels n 0 ≡ level → LeadsTo graph m n → Reached near (near from) n
      from_reached f r l e (directly {m = m} {n = n} h) = edge m n r (on_level levels level (needs_of graph m) n h e)
      from_reached f r l e (through {k = k} {m = m} h g) =
          let a = f k m h in
          let b = never_rises f g in
          let s : get_or levels m 0 ≡ level = omega (arith, a, b, l, e) in
          from_reached f (edge k m r (on_level levels level (needs_of graph k) m h s)) s e g

      pub leads_reached : Falls graph levels → {n : ℕ} → get_or levels from 0 ≡ level → get_or levels n 0 ≡ level → LeadsTo graph from n → Reached near (near from) n
      leads_reached f l e (directly {n = n} h) = seed n (on_level levels level (needs_of graph from) n h e)
      leads_reached f l e (through {m = m} h g) =
          let a = f from m h in
          let b = never_rises f g in
          let s : get_or levels m 0 ≡ level = omega (arith, a, b, l, e) in
          from_reached f (seed m (on_level levels level (needs_of graph from) m h s)) s e g

  needs_something : (n m : ℕ) → Has (needs_of graph n) m → n < length graph
  needs_something n m h = elim (below_or n (length graph)) [ inl less ↦ less | inr more ↦ absurd (outside graph n m more h) ]
    where
      outside : (rows : List (List ℕ)) (n m : ℕ) → length rows ≤ n → Has (needs_of rows n) m → ⊥
      outside [] n m l h = h
      outside (r ∷ rows) zero m l h = omega (arith, l)
      outside (r ∷ rows) (suc n) m l h = outside rows n m (omega (arith, l)) h

  pub leads_from : {m n : ℕ} → LeadsTo graph m n → m < length graph
  leads_from (directly {m = m} {n = n} h) = needs_something m n h
  leads_from (through {k = k} {m = m} h g) = needs_something k m h

  -- no package before this one is on a cycle
  pub least_here : (n : ℕ) → ((m : ℕ) → m < n → IsOnCycle graph m → ⊥) → IsOnCycle graph n → IsLeastOnCycle graph n
  least_here n before on = record { on = on; least = λ m c. elim (below_or m n) [ inl less ↦ absurd (before m less c) | inr more ↦ more ] }

  pub none_on : (n : ℕ) → length graph ≤ n → ((m : ℕ) → m < n → IsOnCycle graph m → ⊥) → (m : ℕ) → IsOnCycle graph m → ⊥
  none_on n long before m c = before m (omega (arith, long, leads_from c)) c

has_more_suc : (ns : List ℕ) (i n : ℕ) → i < length ns → Has (take (suc i) ns) n → Has (take i ns) n ⊎ (get_or ns i 0 ≡ n)
has_more_suc [] i n h m = absurd m
has_more_suc (k ∷ ns) zero n h (inl e) = inr e
has_more_suc (k ∷ ns) zero n h (inr m) = absurd m
has_more_suc (k ∷ ns) (suc i) n h (inl e) = inl (inl e)
has_more_suc (k ∷ ns) (suc i) n h (inr m) = elim (has_more_suc ns i n (omega (arith, h)) m) [ inl l ↦ inl (inr l) | inr r ↦ inr r ]

pub has_more : (ns : List ℕ) (i n : ℕ) → i < length ns → Has (take (i + 1) ns) n → Has (take i ns) n ⊎ (get_or ns i 0 ≡ n)
has_more ns i n h m = has_more_suc ns i n h (subst (λ (k : ℕ). Has (take k ns) n) (add-one i) m)

-- what fails of all before a place and at it fails of all before the next one
pub none_more : (P : ℕ → Type 0) (i : ℕ) → ((m : ℕ) → m < i → P m → ⊥) → (P i → ⊥) → (m : ℕ) → m < i + 1 → P m → ⊥
none_more P i before here m less p = elim (below_or m i) [ inl l ↦ before m l p | inr g ↦ here (subst P (let e : m ≡ i = omega (arith, less, g) in e) p) ]
