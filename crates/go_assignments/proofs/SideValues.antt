-- The values that sides are assigned.
use Rattle.std.proofs.Common.{◌≡◌, ◌∙◌, ℕ, List, [], ◌∷◌, refl, sym, ap, subst}
use Rattle.std.specs.List.{AllZip}
use Rattle.go_model.specs.declared.types.package.ConstTerm.TheVariants as constant
use Rattle.go_model.specs.declared.types.term.Term.{Term}
use Rattle.go_rules.specs.Environments.{Env}
use Rattle.go_rules.specs.Expressions.{Has}
use Rattle.go_rules.specs.declared.operand.Operand.{Operand}
use Rattle.go_rules.proofs.OneOperand.{has_once}
use Rattle.go_rules.proofs.OneKind.{const_in, term_in}
use Rattle.go_statement_rules.specs.Assignments.{AreAssigned, assigned_blank, assigned_none, assigned_side, IsAssigned, is_assigned}
use Rattle.go_syntax.specs.declared.expression.Expr.{Expr}
use Rattle.go_typings.specs.Initializers.{Initialize}
use Rattle.go_typings.proofs.OneEntry.{initialize_once}
use Rattle.go_assignments.specs.inner.Sides.{IsGiven, Takes, takes_blank, takes_operand, TakesBlank, TakesOperand}

of_side : {l : Operand} {t : Term} → IsAssigned l t → const_in l.shape ≡ constant.OfTerm t
of_side (is_assigned h) = refl

-- an operand is assigned values of one type
pub one_side : {l : Operand} {t u : Term} → IsAssigned l t → IsAssigned l u → t ≡ u
one_side a b = ap term_in (sym (of_side a) ∙ of_side b)

module _ (E : Env) where
  pub to_assigned : (es : List Expr) (os : List Operand) → AllZip (Takes E) es os → AreAssigned E es os
  to_assigned [] [] h = assigned_none
  to_assigned [] (o ∷ os) h = absurd h
  to_assigned (e ∷ es) [] h = absurd h
  to_assigned (e ∷ es) (o ∷ os) (takes_blank (b, (t, v)), h) = assigned_blank b v (to_assigned es os h)
  to_assigned (e ∷ es) (o ∷ os) (takes_operand (l, a, (t, i, u)), h) = assigned_side a i u (to_assigned es os h)

  pub in_assigned : (es : List Expr) (os : List Operand) → AreAssigned E es os → AllZip (Takes E) es os
  in_assigned es os assigned_none = tt
  in_assigned es os (assigned_blank b v r) = (takes_blank (b, (_, v)), in_assigned _ _ r)
  in_assigned es os (assigned_side a i u r) = (takes_operand (_, a, (_, i, u)), in_assigned _ _ r)

  -- the one operand of a side is what is given the value
  pub given_by : {e : Expr} {o l : Operand} → Has E e l → TakesOperand E e o → IsGiven E l o
  given_by {o = o} a h = subst (λ z. IsGiven E z o) (has_once E h.1 a) h.2

  pub no_blank : {e : Expr} {o : Operand} → (TakesBlank E e o → ⊥) → Takes E e o → TakesOperand E e o
  no_blank none (takes_blank b) = absurd (none b)
  no_blank none (takes_operand h) = h

  -- where the values of the expressions aren't assigned, no values of them are
  pub not_assigned : {n : ℕ} {es xs : List Expr} {os : List Operand} → Initialize E n xs os → (AreAssigned E es os → ⊥) → (ps : List Operand) → Initialize E n xs ps → AreAssigned E es ps → ⊥
  not_assigned {es = es} a n ps b h = n (subst (AreAssigned E es) (initialize_once E b a) h)
