-- Tags and conditions, by their one operand.
use Rattle.std.proofs.Common.{◌≡◌, Option, None, Some, sym, subst}
use Rattle.go_base.specs.declared.operator.CompareOp.TheVariants as compare
use Rattle.go_model.specs.declared.constants.value.Basic.TheVariants as basic
use Rattle.go_model.specs.declared.constants.value.Untyped.TheVariants as untyped
use Rattle.go_model.specs.declared.types.term.Term.{Term, Term-F}
use Rattle.go_model.specs.types.Underlying.{under}
use Rattle.go_rules.specs.Asks.{HasOperand}
use Rattle.go_rules.specs.Environments.{Env}
use Rattle.go_rules.specs.Expressions.{Has, IsComparison}
use Rattle.go_rules.specs.Operands.{IsTyped, IsUntyped, basic_term, plain}
use Rattle.go_rules.specs.declared.operand.Operand.{Operand}
use Rattle.go_rules.proofs.OneKind.{one_type, typed_or_untyped}
use Rattle.go_rules.proofs.OneOperand.{has_once}
use Rattle.go_statement_rules.specs.Clauses.{IsCase, IsTag, no_tag, tag}
use Rattle.go_statement_rules.specs.Statements.{IsTruth, truth_typed, truth_untyped}
use Rattle.go_syntax.specs.declared.expression.Expr.{Expr}
use Rattle.go_typings.specs.Initializers.{TypeOfValue}
use Rattle.go_clauses.specs.Clauses.{IsConditionOf, IsTagOf}
use Rattle.go_clauses.specs.inner.Tags.{ComparesWith, HasValueType}

module _ (E : Env) where
  -- ---- truth values

  pub typed_truth : {o : Operand} {t : Term} → IsTyped o t → IsTruth E o → under E.table t ≡ Term-F.Plain basic.Bool
  typed_truth h (truth_typed g i) = subst (λ (u : Term). under E.table u ≡ Term-F.Plain basic.Bool) (one_type g h) i
  typed_truth h (truth_untyped g) = absurd (typed_or_untyped h g)

  pub untyped_in : {o : Operand} → ((t : Term) → IsTyped o t → ⊥) → IsTruth E o → IsUntyped o untyped.BoolKind
  untyped_in none (truth_typed g i) = absurd (none _ g)
  untyped_in none (truth_untyped g) = g

  pub no_condition : {e : Expr} {o : Operand} → HasOperand E e o → (IsTruth E o → ⊥) → IsConditionOf E e → ⊥
  no_condition h none c = none (subst (IsTruth E) (has_once E c.1.is h.is) c.2)

  -- ---- tags

  pub value_in : {e : Expr} {o : Operand} → HasOperand E e o → (t : Term) → HasValueType E e t → TypeOfValue E o t
  value_in h t v = subst (λ (q : Operand). TypeOfValue E q t) (has_once E v.1.is h.is) v.2

  pub tag_to : (e : Expr) (t : Term) → HasValueType E e t → IsTagOf E (Some e) t
  tag_to e t v = (tag v.1.is v.2, (v.1.meets, tt))

  tag_in_parts : (e : Expr) (t : Term) → IsTag E (Some e) t → (o : Operand) × Has E e o × TypeOfValue E o t
  tag_in_parts e t (tag h v) = (_, h, v)

  pub tag_in : (e : Expr) (t : Term) → IsTagOf E (Some e) t → HasValueType E e t
  tag_in e t g = let p = tag_in_parts e t g.0 in (p.0, record { is = p.1; meets = g.1.0 }, p.2)

  pub without_tag : (e : Option Expr) (t : Term) → e ≡ None → t ≡ basic_term basic.Bool → IsTagOf E e t
  without_tag e t i j = subst (λ (x : Option Expr). IsTagOf E x t) (sym i) (subst (λ (u : Term). IsTagOf E None u) (sym j) (no_tag, tt))

  -- ---- cases

  pub case_in : {t : Term} {e : Expr} {o : Operand} → Has E e o → IsCase E t e → ComparesWith E t o
  case_in {t = t} h c = (c.1, subst (λ (q : Operand). IsComparison E compare.Equal (plain t) q c.1) (has_once E c.2 h) c.3)

  pub case_to : {t : Term} {e : Expr} {o : Operand} → Has E e o → ComparesWith E t o → IsCase E t e
  case_to h c = (_, c.0, h, c.1)
