-- What operators make of variables.
use Rattle.std.proofs.Common.{◌≡◌, ◌∙◌, Bool, false, Result, sym, ap, subst}
use Rattle.std.specs.Prelude.{IfOk}
use Rattle.go_base.specs.declared.memory.NoMemory.{NoMemory}
use Rattle.go_base.specs.declared.operator.AssignOperator.{AssignOperator}
use Rattle.go_base.specs.declared.operator.AssignOperator.TheVariants as assign
use Rattle.go_base.specs.declared.operator.StepOperator.{StepOperator}
use Rattle.go_model.specs.declared.types.term.Direction.{Direction}
use Rattle.go_model.specs.declared.types.term.Term.{Term, Term-F}
use Rattle.go_model.specs.types.Terms.{Layer}
use Rattle.go_model.specs.types.Underlying.{under}
use Rattle.go_rules.specs.Asks.{HasOperand}
use Rattle.go_rules.specs.Environments.{Env}
use Rattle.go_rules.specs.Expressions.{Computes, product_operator, sends}
use Rattle.go_rules.specs.Operands.{IsTyped}
use Rattle.go_rules.specs.Usability.{UsableAs}
use Rattle.go_rules.specs.declared.operand.Operand.{Operand}
use Rattle.go_rules.proofs.OneKind.{no_truth, one_type}
use Rattle.go_rules.proofs.OneOperand.{has_once}
use Rattle.go_rules.proofs.OneResult.{one_computes, one_product}
use Rattle.go_statement_rules.specs.Assignments.{IsAssigned, Operates, one, step_operator}
use Rattle.go_syntax.specs.declared.expression.Expr.{Expr}
use Rattle.go_assignments.specs.Simple.{MayOperate, MaySend, MayStep, OperatesOn, Sends, Steps, TakesSent}
use Rattle.go_selectors.specs.Answers.{Decides}
use Rattle.go_assignments.specs.inner.Changes.{ResultFits, StepFits}
use Rattle.go_assignments.proofs.Decided.{decided_as}
use Rattle.go_assignments.proofs.SideValues.{one_side}

abbrev element_in : Term → Layer → Term
element_in t (Term-F.Chan d u) = u
element_in t l = t

module _ (E : Env) where
  one_operates : (op : AssignOperator) (l o : Operand) {q r : Operand} → Operates E op l o q → Operates E op l o r → q ≡ r
  one_operates (assign.Sum op) l o a b = one_computes a b
  one_operates (assign.Product op) l o a b = one_product E (product_operator op) l o a b

  one_operand : {e : Expr} {o p : Operand} → HasOperand E e o → HasOperand E e p → o ≡ p
  one_operand a b = has_once E a.is b.is

  -- values of one type are sent to a channel
  pub one_sent : {c : Operand} {t u : Term} → TakesSent E c t → TakesSent E c u → t ≡ u
  one_sent {t = t} {u = u} (v, d, i, e, s) (w, f, j, g, r) = ap (element_in t) (sym e ∙ ap (λ z. under E.table z) (one_type i j) ∙ g)

  pub no_send : {e x : Expr} {c o : Operand} → HasOperand E e c → HasOperand E x o → (MaySend E c o → ⊥) → Sends E e x → ⊥
  no_send {o = o} a b n (d, p, f, g, h) = n (subst (λ z. MaySend E z o) (one_operand f a) (subst (MaySend E d) (one_operand g b) h))

  pub no_step : {e : Expr} {l : Operand} (op : StepOperator) → HasOperand E e l → (MayStep E op l → ⊥) → Steps E op e → ⊥
  no_step op a n (m, b, h) = n (subst (MayStep E op) (one_operand b a) h)

  pub no_operation : {e x : Expr} {l o : Operand} (op : AssignOperator) → HasOperand E e l → HasOperand E x o → (MayOperate E op l o → ⊥) → OperatesOn E op e x → ⊥
  no_operation {o = o} op a b n (m, p, f, g, h) = n (subst (λ z. MayOperate E op z o) (one_operand f a) (subst (MayOperate E op m) (one_operand g b) h))

  same_direction : {t u : Term} {d f : Direction} → ◌≡◌ {A = Layer} (Term-F.Chan d t) (Term-F.Chan f u) → d ≡ f
  same_direction e = cc

  pub no_channel : (c : Operand) (t : Term) → IsTyped c t → ((d : Direction) (u : Term) → under E.table t ≡ Term-F.Chan d u → ⊥) → (u : Term) → TakesSent E c u → ⊥
  no_channel c t i none u (v, d, j, e, s) = none d u (ap (λ z. under E.table z) (one_type i j) ∙ e)

  pub no_sending : (c : Operand) (t u : Term) (d : Direction) (b : Bool) → IsTyped c t → under E.table t ≡ Term-F.Chan d u → b ≡ sends d → b ≡ false → (w : Term) → TakesSent E c w → ⊥
  no_sending c t u d b i k f g w (v, q, j, e, s) = no_truth (sym s ∙ ap sends (same_direction (sym e ∙ ap (λ z. under E.table z) (one_type j i) ∙ k)) ∙ sym f ∙ g)

  -- ---- what is made of a variable, and its type

  pub step_decided : (op : StepOperator) (l o : Operand) (t : Term) (r : Result Bool NoMemory) → Computes E (step_operator op) l one o → IfOk r (λ b. Decides b (UsableAs E o t)) → IfOk r (λ b. Decides b (StepFits E op l t))
  step_decided op l o t r c d = decided_as (UsableAs E o t) (StepFits E op l t) r (λ u. (o, c, u)) (λ h. subst (λ (z : Operand). UsableAs E z t) (one_computes h.1 c) h.2) d

  pub stepped : (op : StepOperator) (l : Operand) (t : Term) (r : Result Bool NoMemory) → IsAssigned l t → IfOk r (λ b. Decides b (StepFits E op l t)) → IfOk r (λ b. Decides b (MayStep E op l))
  stepped op l t r a d = decided_as (StepFits E op l t) (MayStep E op l) r (λ h. (t, h.0, a, h.1, h.2)) (λ h. subst (StepFits E op l) (one_side h.2 a) (h.1, h.3, h.4)) d

  pub result_decided : (op : AssignOperator) (l o q : Operand) (t : Term) (r : Result Bool NoMemory) → Operates E op l o q → IfOk r (λ b. Decides b (UsableAs E q t)) → IfOk r (λ b. Decides b (ResultFits E op l o t))
  result_decided op l o q t r c d = decided_as (UsableAs E q t) (ResultFits E op l o t) r (λ u. (q, c, u)) (λ h. subst (λ (z : Operand). UsableAs E z t) (one_operates op l o h.1 c) h.2) d

  pub operated : (op : AssignOperator) (l o : Operand) (t : Term) (r : Result Bool NoMemory) → IsAssigned l t → IfOk r (λ b. Decides b (ResultFits E op l o t)) → IfOk r (λ b. Decides b (MayOperate E op l o))
  operated op l o t r a d = decided_as (ResultFits E op l o t) (MayOperate E op l o) r (λ h. (t, h.0, a, h.1, h.2)) (λ h. subst (ResultFits E op l o) (one_side h.2 a) (h.1, h.3, h.4)) d
