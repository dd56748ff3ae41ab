-- A fact of each of some items, one after another.
use Rattle.std.proofs.Common.{◌≡◌, ◌<◌, ◌+◌, ℕ, zero, suc, Bool, true, false, List, [], ◌∷◌, ◌++◌, length, take, get_or, refl, sym, ap, subst, arith}
use Rattle.go_base.specs.Lists.{Each}
use Rattle.go_base.proofs.Members.{each_has}
use Rattle.go_model.specs.declared.types.term.Term.{Term}
use Rattle.go_rules.specs.Environments.{Env}
use Rattle.go_rules.specs.Usability.{UsableAs}
use Rattle.go_rules.specs.declared.operand.Operand.{Operand}
use Rattle.go_selectors.specs.Answers.{Decides}
use Rattle.go_selectors.proofs.Lists.{item_has, taken_next}
use Rattle.go_calls.specs.inner.Arguments.{UsableEach}

each_last : {A : Type 0} (P : A → Type 0) (xs : List A) (x : A) → Each P xs → P x → Each P (xs ++ x ∷ [])
each_last P [] x e p = (p, tt)
each_last P (y ∷ xs) x e p = (e.0, each_last P xs x e.1 p)

module _ {A : Type 0} (P : A → Type 0) (xs : List A) (i : ℕ) (x : A) (answer : Bool) (h : i < length xs) (e : x ≡ get_or xs i x) where
  pub each_lacks : answer ≡ false → Decides answer (P x) → Each P xs → ⊥
  each_lacks f d all = (subst (λ b. Decides b (P x)) f d) (each_has P xs x all (item_has xs i x h e))

  pub each_next : answer ≡ true → Decides answer (P x) → Each P (take i xs) → Each P (take (i + 1) xs)
  each_next f d all = subst (Each P) (sym (taken_next xs i x h e)) (each_last P (take i xs) x all (subst (λ b. Decides b (P x)) f d))

-- ---- operands and types, pair by pair

module _ (E : Env) where
  usable_last : (os : List Operand) (ts : List Term) (o : Operand) (t : Term) → UsableEach E os ts → UsableAs E o t → UsableEach E (os ++ o ∷ []) (ts ++ t ∷ [])
  usable_last [] [] o t u p = (p, tt)
  usable_last (q ∷ os) (s ∷ ts) o t u p = (u.0, usable_last os ts o t u.1 p)
  usable_last [] (s ∷ ts) o t u p = elim u [ ]
  usable_last (q ∷ os) [] o t u p = elim u [ ]

  usable_at : (os : List Operand) (ts : List Term) (i : ℕ) (o : Operand) (t : Term) → i < length os → UsableEach E os ts → UsableAs E (get_or os i o) (get_or ts i t)
  usable_at [] ts i o t h u = absurd (omega arith)
  usable_at (q ∷ os) [] i o t h u = elim u [ ]
  usable_at (q ∷ os) (s ∷ ts) zero o t h u = u.0
  usable_at (q ∷ os) (s ∷ ts) (suc i) o t h u = usable_at os ts i o t (omega arith) u.1

  pub usable_lengths : (os : List Operand) (ts : List Term) → UsableEach E os ts → length os ≡ length ts
  usable_lengths [] [] u = refl
  usable_lengths (o ∷ os) (t ∷ ts) u = ap suc (usable_lengths os ts u.1)
  usable_lengths [] (t ∷ ts) u = elim u [ ]
  usable_lengths (o ∷ os) [] u = elim u [ ]

  module _ (os : List Operand) (ts : List Term) (i : ℕ) (o : Operand) (t : Term) (answer : Bool) (h : i < length os) (same : length os ≡ length ts) (e : o ≡ get_or os i o) (f : t ≡ get_or ts i t) where
    pub usable_lacks : answer ≡ false → Decides answer (UsableAs E o t) → UsableEach E os ts → ⊥
    usable_lacks g d u = (subst (λ b. Decides b (UsableAs E o t)) g d) (subst (λ (x : Operand). UsableAs E x t) (sym e) (subst (UsableAs E (get_or os i o)) (sym f) (usable_at os ts i o t h u)))

    pub usable_next : answer ≡ true → Decides answer (UsableAs E o t) → UsableEach E (take i os) (take i ts) → UsableEach E (take (i + 1) os) (take (i + 1) ts)
    usable_next g d u =
        subst (λ (x : List Operand). UsableEach E x (take (i + 1) ts)) (sym (taken_next os i o h e))
        (subst (UsableEach E (take i os ++ o ∷ [])) (sym (taken_next ts i t (omega arith) f)) (usable_last (take i os) (take i ts) o t u (subst (λ b. Decides b (UsableAs E o t)) g d)))
