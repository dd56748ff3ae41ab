-- The values that expressions give names, by how many there are of both.
use Rattle.std.proofs.Common.{◌≡◌, ◌≢◌, ◌≤◌, ℕ, List, [], ◌∷◌, get_or, length, refl, sym, ap, ◌∙◌, subst, arith}
use Rattle.std.specs.List.{AllZip}
use Rattle.go_rules.specs.Environments.{Env}
use Rattle.go_rules.specs.Expressions.{Has, HasEach, each_none, each_more}
use Rattle.go_rules.specs.declared.operand.Operand.{Operand}
use Rattle.go_syntax.specs.declared.expression.Expr.{Expr}
use Rattle.go_typings.specs.Initializers.{Initialize, by_each, by_call, by_two}
use Rattle.go_entries.specs.inner.Values.{GivesSeveral, gives_results, gives_truth}

two_or_one : (n : ℕ) → 1 ≡ n → 2 ≤ n → ⊥
two_or_one n e l = absurd (omega arith)

one_is_two : (n : ℕ) → 1 ≡ n → n ≡ 2 → ⊥
one_is_two n e f = absurd (omega arith)

-- one expression alone
pub alone : (es : List Expr) (e : Expr) → 1 ≤ length es → length es ≤ 1 → e ≡ get_or es 0 e → es ≡ e ∷ []
alone [] e a b i = absurd (omega arith)
alone (x ∷ []) e a b i = ap (λ y. y ∷ []) (sym i)
alone (x ∷ y ∷ es) e a b i = absurd (omega arith)

module _ (E : Env) where
  pub to_each : (es : List Expr) (os : List Operand) → AllZip (Has E) es os → HasEach E es os
  to_each [] [] h = each_none
  to_each [] (o ∷ os) h = absurd h
  to_each (e ∷ es) [] h = absurd h
  to_each (e ∷ es) (o ∷ os) h = each_more h.0 (to_each es os h.1)

  pub in_each : (es : List Expr) (os : List Operand) → HasEach E es os → AllZip (Has E) es os
  in_each es os each_none = tt
  in_each es os (each_more h r) = (h, in_each _ _ r)

  module _ (n : ℕ) where
    -- as many expressions as names
    pub alone_each : (es : List Expr) → length es ≡ n → (os : List Operand) → Initialize E n es os → HasEach E es os
    alone_each es i os (by_each h e) = h
    alone_each es i os (by_call h e l) = absurd (two_or_one n i l)
    alone_each es i os (by_two h e) = absurd (one_is_two n i e)

    -- one expression for more names, or for none
    pub to_one : (e : Expr) (es : List Expr) → es ≡ e ∷ [] → (os : List Operand) → GivesSeveral E n e os → Initialize E n es os
    to_one e es i os (gives_results h k l) = subst (λ (xs : List Expr). Initialize E n xs os) (sym i) (by_call h k l)
    to_one e es i os (gives_truth h k) = subst (λ (xs : List Expr). Initialize E n xs os) (sym i) (by_two h k)

    one_alone : (e : Expr) → 1 ≢ n → (os : List Operand) → Initialize E n (e ∷ []) os → GivesSeveral E n e os
    one_alone e d os (by_each h k) = absurd (d k)
    one_alone e d os (by_call h k l) = gives_results h k l
    one_alone e d os (by_two h k) = gives_truth h k

    pub in_one : (e : Expr) (es : List Expr) → es ≡ e ∷ [] → length es ≢ n → (os : List Operand) → Initialize E n es os → GivesSeveral E n e os
    in_one e es i d os h = one_alone e (λ k. d (ap length i ∙ k)) os (subst (λ (xs : List Expr). Initialize E n xs os) i h)
