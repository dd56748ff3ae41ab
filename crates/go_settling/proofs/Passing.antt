-- What an attempt to settle a declaration keeps, and what a pass over them has done.
use Rattle.std.proofs.Common.{◌≡◌, ◌≢◌, ℕ, zero, suc, ◌+◌, ◌<◌, Bool, true, false, ◌||◌, length, Some, None, refl, sym, ap, ◌∙◌, subst, ◌⊎◌, inl, inr, arith}
use Rattle.std.specs.Prelude.{Result, Ok, Err}
use Rattle.std.proofs.lemmas.Option.{slice_get_within}
use Rattle.go_base.specs.declared.memory.NoMemory.{NoMemory}
use Rattle.go_typings.specs.Declarations.{declarations}
use Rattle.go_typings.specs.PackageEnvironments.{Entries, Entry}
use Rattle.go_typings.specs.Sources.{PackageSource, Setting}
use Rattle.go_typings.specs.Typings.{given}
use Rattle.go_typings.proofs.OneTyping.{grows}
use Rattle.go_settling.specs.Settling.{AreFromBelow, Attempts, Gains, IsStuck}
use Rattle.go_settling.specs.inner.Passes.{IsSamePackage, Passed, empties, one_empty}
use Rattle.go_settling.proofs.NextEntry.{one_more}

-- ---- how many are without an entry

is_last : (k n : ℕ) → k < suc n → (k ≡ n) ⊎ (k < n)
is_last k n h = grind (arith, h)

empties_same : (k : ℕ) (a b : Entries) → ((m : ℕ) → m < k → b m ≡ a m) → empties k b ≡ empties k a
empties_same zero a b h = refl
empties_same (suc k) a b h =
    let p = ap one_empty (h k (omega arith)) in
    let q = empties_same k a b (λ m l. h m (omega (arith, l))) in
    omega (arith, p, q)

empties_one : (k n : ℕ) (a b : Entries) (x : Entry) → n < k → a n ≡ None → b n ≡ Some x → ((m : ℕ) → m ≢ n → b m ≡ a m) → empties k b < empties k a
empties_one zero n a b x l e f h = absurd (omega (arith, l))
empties_one (suc k) n a b x l e f h = elim (is_last n k l) [
  | inl q ↦ (let old = ap one_empty (ap a (sym q) ∙ e) in let new = ap one_empty (ap b (sym q) ∙ f) in
      let r = empties_same k a b (λ m i. h m (λ p. absurd (omega (arith, i, p, q)))) in omega (arith, old, new, r))
  | inr i ↦ (let r = empties_one k n a b x i e f h in let s = ap one_empty (h k (λ p. absurd (omega (arith, i, p)))) in omega (arith, r, s))
]

below_next : (P : ℕ → Type 0) (n : ℕ) → ((m : ℕ) → m < n → P m) → P n → (m : ℕ) → m < n + 1 → P m
below_next P n h p m l = elim (is_last m n (omega (arith, l))) [ inl e ↦ subst P (sym e) p | inr i ↦ h m i ]

-- ---- the package stays

pub still_same : (s t r : Setting) (u v w : PackageSource) → IsSamePackage s t u v → r ≡ t → w ≡ v → IsSamePackage s r u w
still_same s t r u v w k e f = record { setting = e ∙ k.setting; source = f ∙ k.source }

pub same_then : (s t r : Setting) (u v w : PackageSource) → IsSamePackage s t u v → IsSamePackage t r v w → IsSamePackage s r u w
same_then s t r u v w k l = still_same s t r u v w k l.setting l.source

-- a fact of the package as it is holds of it as it was
moved : (P : Setting → PackageSource → Type 0) (s t : Setting) (u v : PackageSource) → IsSamePackage s t u v → P t v → P s u
moved P s t u v k p = subst (λ (z : Setting). P z u) k.setting (subst (λ (z : PackageSource). P t z) k.source p)

moved_back : (P : Setting → PackageSource → Type 0) (s t : Setting) (u v : PackageSource) → IsSamePackage s t u v → P s u → P t v
moved_back P s t u v k p = subst (λ (z : Setting). P z v) (sym k.setting) (subst (λ (z : PackageSource). P s z) (sym k.source) p)

pub below_then : (s t : Setting) (u v : PackageSource) (a : Entries) → IsSamePackage s t u v → AreFromBelow t v a → AreFromBelow s u a
below_then s t u v a k p = moved (λ z w. AreFromBelow z w a) s t u v k p

pub below_now : (s t : Setting) (u v : PackageSource) (a : Entries) → IsSamePackage s t u v → AreFromBelow s u a → AreFromBelow t v a
below_now s t u v a k p = moved_back (λ z w. AreFromBelow z w a) s t u v k p

pub passed_then : (s t : Setting) (u v : PackageSource) (a b : Entries) (n : ℕ) (moved' : Bool) → IsSamePackage s t u v → Passed t v a n moved' b → Passed s u a n moved' b
passed_then s t u v a b n m k p = moved (λ z w. Passed z w a n m b) s t u v k p

pub attempt_then : (s t : Setting) (u v : PackageSource) (a b : Entries) (n : ℕ) (r : Result Bool NoMemory) → IsSamePackage s t u v → Attempts t v a n r b → Attempts s u a n r b
attempt_then s t u v a b n r k p = moved (λ z w. Attempts z w a n r b) s t u v k p

pub count_now : (s t : Setting) (u v : PackageSource) (count : ℕ) → IsSamePackage s t u v → count ≡ length (declarations u) → count ≡ length (declarations v)
count_now s t u v count k e = e ∙ ap (λ z. length (declarations z)) (sym k.source)

module _ (s : Setting) (u : PackageSource) where
  gains_below : (a b : Entries) (n : ℕ) → AreFromBelow s u a → Gains s u a n b → AreFromBelow s u b
  gains_below a b n A g = one_more (given s u) (grows s u) (declarations u) a b n A g.had_none g.others g.gained

  pub attempt_below : (a b : Entries) (n : ℕ) (r : Result Bool NoMemory) → AreFromBelow s u a → Attempts s u a n r b → AreFromBelow s u b
  attempt_below a b n (Ok true) A t = gains_below a b n A t
  attempt_below a b n (Ok false) A t = subst (AreFromBelow s u) (sym t.0) A
  attempt_below a b n (Err e) A t = subst (AreFromBelow s u) (sym t) A

  gains_fewer : (a b : Entries) (n : ℕ) → Gains s u a n b → empties (length (declarations u)) b < empties (length (declarations u)) a
  gains_fewer a b n g = let t = g.gained in empties_one (length (declarations u)) n a b t.2.0 (slice_get_within (declarations u) n t.0 t.1) g.had_none t.2.1 g.others

  -- one more was tried
  pub passed_next : (old a b : Entries) (n : ℕ) (moved t : Bool) → Passed s u old n moved a → Attempts s u a n (Ok t) b → Passed s u old (n + 1) (moved || t) b
  passed_next old a b n true true p g = let h = gains_fewer a b n g in omega (arith, p, h)
  passed_next old a b n true false p g = subst (λ (z : Entries). empties (length (declarations u)) z < empties (length (declarations u)) old) (sym g.0) p
  passed_next old a b n false true p g = subst (λ (z : Entries). empties (length (declarations u)) b < empties (length (declarations u)) z) p.0 (gains_fewer a b n g)
  passed_next old a b n false false p g = (g.0 ∙ p.0, below_next (IsStuck s u old) n p.1 (subst (λ (z : Entries). IsStuck s u z n) p.0 g.1))
