-- Reasoning on what has to exist.
use Rattle.std.proofs.Common.{◌≡◌, ◌⊎◌, ℕ, zero, suc, ◌<◌, ◌≤◌, Bool, true, false, nat_lt, List, [], ◌∷◌, refl, subst, inl, inr, arith}
use Rattle.std.proofs.lemmas.Bool.Decides.{nat_tests}
use Rattle.go_base.specs.Lists.{Has}
use Rattle.go_existence.specs.Existence.{NotNone}

pub sure : {A : Type 0} → A → NotNone A
sure a = λ k. k a

pub bind : {A B : Type 0} → NotNone A → (A → NotNone B) → NotNone B
bind h f = λ k. h (λ a. f a k)

pub so : {A B : Type 0} → NotNone A → (A → B) → NotNone B
so h f = λ k. h (λ a. k (f a))

pub decided : (A : Type 0) → NotNone (A ⊎ (A → ⊥))
decided A = λ k. k (inr (λ a. k (inl a)))

-- what can't fail to hold of each item holds of all at once
pub of_each : {A : Type 0} (P : A → Type 0) (xs : List A) → ((x : A) → Has xs x → NotNone (P x)) → NotNone ((x : A) → Has xs x → P x)
of_each P [] h = sure (λ x k. absurd k)
of_each P (y ∷ ys) h = bind (h y (inl refl)) (λ p. so (of_each P ys (λ x k. h x (inr k))) (λ rest. λ x k. elim k [ inl e ↦ subst P e p | inr l ↦ rest x l ]))

less_by : (k n : ℕ) (r : Bool) → nat_lt k n ≡ r → k < suc n → (k < n) ⊎ (n ≡ k)
less_by k n true e l = inl (grind (arith, nat_tests, e, l))
less_by k n false e l = inr (grind (arith, nat_tests, e, l))

-- a number below the next one is below this one, or is it
pub below_or : (k n : ℕ) → k < suc n → (k < n) ⊎ (n ≡ k)
below_or k n l = less_by k n (nat_lt k n) refl l

side_by : (a b : ℕ) (r : Bool) → nat_lt a b ≡ r → (a < b) ⊎ (b ≤ a)
side_by a b true e = inl (grind (arith, nat_tests, e))
side_by a b false e = inr (grind (arith, nat_tests, e))

pub less_or : (a b : ℕ) → (a < b) ⊎ (b ≤ a)
less_or a b = side_by a b (nat_lt a b) refl

-- the same of the numbers below one
pub of_below : (P : ℕ → Type 0) (n : ℕ) → ((k : ℕ) → k < n → NotNone (P k)) → NotNone ((k : ℕ) → k < n → P k)
of_below P zero h = sure (λ k l. absurd (omega (arith, l)))
of_below P (suc n) h = bind (h n (omega arith)) (λ p. so (of_below P n (λ k l. h k (omega (arith, l)))) (λ rest. λ k l. elim (below_or k n l) [ inl m ↦ rest k m | inr e ↦ subst P e p ]))
