-- Values of constants of inexact types.
use Rattle.std.proofs.Common.{◌≡◌, ◌<◌, ◌≤◌, ◌+◌, ℕ, Bool, true, false, List, [], ◌∷◌, length, get_or, drop, refl, sym, ap, ◌∙◌, subst, inl, inr}
use Rattle.go_exposed.specs.BeyondProfile.{IsInexact, IsValue, IsValueOf, MayBeConstant}
use Rattle.go_inexact.specs.Values.{IsInexactValue, OneIsInexact}
use Rattle.go_model.specs.constants.Classes.{class_of_basic, is_inexact}
use Rattle.go_model.specs.declared.constants.value.Basic.{Basic}
use Rattle.go_model.specs.declared.types.term.Term.{Term, Term-F}
use Rattle.go_model.specs.types.Underlying.{under}
use Rattle.go_expr.proofs.go_operators_proofs.LevelForms.{same_basic}
use Rattle.go_rules.specs.Environments.{Env}
use Rattle.go_rules.specs.Expressions.{Has as HasOperand}
use Rattle.go_rules.specs.Operands.{plain}
use Rattle.go_rules.specs.Usability.{UsableAs}
use Rattle.go_rules.specs.declared.operand.Operand.{Operand}
use Rattle.go_rules.specs.declared.operand.Shape.TheVariants as shape
use Rattle.go_rules.proofs.OneOperand.{has_once}
use Rattle.go_selectors.specs.Answers.{Decides}
use Rattle.go_selectors.proofs.Lists.{drop_all, drop_next}
use Rattle.go_syntax.specs.declared.expression.Expr.{Expr}

no_true : {A : Type 0} → false ≡ true → A
no_true e = absurd (cc)

module _ (E : Env) where
  -- ---- inexact types

  pub inexact_under : (t : Term) (b : Basic) (r : Bool) → under E.table t ≡ Term-F.Plain b → r ≡ is_inexact (class_of_basic b) → Decides r (IsInexact E t)
  inexact_under t b true u e = record { basic = b; is = u; inexact = sym e }
  inexact_under t b false u e = λ k. no_true (e ∙ ap (λ (z : Basic). is_inexact (class_of_basic z)) (same_basic (sym u ∙ k.is)) ∙ k.inexact)

  pub not_basic : (t : Term) → ((b : Basic) → under E.table t ≡ Term-F.Plain b → ⊥) → IsInexact E t → ⊥
  not_basic t none k = none k.basic k.is

  -- ---- values

  module _ (e : Expr) where
    pub value_decides : (o : Operand) (b : Bool) → HasOperand E e o → Decides b (MayBeConstant E e) → Decides b (IsValue E e)
    value_decides o true h d = record { operand = o; has = h; constant = d }
    value_decides o false h d = λ k. d k.constant

    pub no_value : ((o : Operand) → HasOperand E e o → ⊥) → IsValue E e → ⊥
    no_value none k = none k.operand k.has

    module _ (t : Term) where
      pub value_of_decides : (o : Operand) (b : Bool) → HasOperand E e o → UsableAs E o t → Decides b (MayBeConstant E e) → Decides b (IsValueOf E t e)
      value_of_decides o true h u d = record { operand = o; has = h; usable = u; constant = d }
      value_of_decides o false h u d = λ k. d k.constant

      pub not_usable : (o : Operand) → HasOperand E e o → (UsableAs E o t → ⊥) → IsValueOf E t e → ⊥
      not_usable o h none k = none (subst (λ (z : Operand). UsableAs E z t) (has_once E k.has h) k.usable)

      pub no_value_of : ((o : Operand) → HasOperand E e o → ⊥) → IsValueOf E t e → ⊥
      no_value_of none k = none k.operand k.has

    -- ---- values of an inexact type

    pub same_plain : {t u : Term} → plain t ≡ plain u → t ≡ u
    same_plain {t = t} {u = u} e = let s : shape.Of t ≡ shape.Of u = ap (λ (o : Operand). o.shape) e in cc

    pub inexact_decides : (o : Operand) (t : Term) (b : Bool) → HasOperand E e o → o ≡ plain t → Decides b (IsInexact E t) → Decides b (IsInexactValue E e)
    inexact_decides o t true h q d = record { type = t; has = subst (HasOperand E e) q h; inexact = d }
    inexact_decides o t false h q d = λ k. d (subst (IsInexact E) (same_plain (sym (has_once E h k.has) ∙ q)) k.inexact)

    pub not_plain : (o : Operand) → HasOperand E e o → ((t : Term) → o ≡ plain t → ⊥) → IsInexactValue E e → ⊥
    not_plain o h none k = none k.type (has_once E h k.has)

    pub no_inexact : ((o : Operand) → HasOperand E e o → ⊥) → IsInexactValue E e → ⊥
    no_inexact none k = none (plain k.type) k.has

  -- ---- one of several

  -- one of the expressions is only where one of those that follow is
  module _ (es : List Expr) where
    pub record OneFrom (rest : List Expr) : Type 0 where
      pub to : OneIsInexact E es → OneIsInexact E rest
      pub of : OneIsInexact E rest → OneIsInexact E es

    pub one_begins : OneFrom es
    one_begins = record { to = λ k. k; of = λ k. k }

    one_behind : (x : Expr) (xs : List Expr) → OneIsInexact E xs → OneIsInexact E (x ∷ xs)
    one_behind x xs k = record { expr = k.expr; among = inr k.among; value = k.value }

    one_first : (x : Expr) (xs : List Expr) → IsInexactValue E x → OneIsInexact E (x ∷ xs)
    one_first x xs k = record { expr = x; among = inl refl; value = k }

    one_other : (x : Expr) (xs : List Expr) → (IsInexactValue E x → ⊥) → OneIsInexact E (x ∷ xs) → OneIsInexact E xs
    one_other x xs none k = elim k.among [
      | inl e ↦ absurd (none (subst (IsInexactValue E) (sym e) k.value))
      | inr h ↦ record { expr = k.expr; among = h; value = k.value }
    ]

    no_one : OneIsInexact E [] → ⊥
    no_one k = k.among

    module _ (i : ℕ) (w : OneFrom (drop i es)) where
      pub one_none : length es ≤ i → OneIsInexact E es → ⊥
      one_none h k = no_one (subst (OneIsInexact E) (drop_all i es h) (w.to k))

      module _ (x : Expr) (h : i < length es) (e : x ≡ get_or es i x) where
        pub one_found : (b : Bool) → b ≡ true → Decides b (IsInexactValue E x) → OneIsInexact E es
        one_found b t d = w.of (subst (OneIsInexact E) (sym (drop_next i es x h e)) (one_first x (drop (i + 1) es) (subst (λ (z : Bool). Decides z (IsInexactValue E x)) t d)))

        pub one_next : (b : Bool) → b ≡ false → Decides b (IsInexactValue E x) → OneFrom (drop (i + 1) es)
        one_next b t d = record {
          to = λ k. one_other x (drop (i + 1) es) (subst (λ (z : Bool). Decides z (IsInexactValue E x)) t d) (subst (OneIsInexact E) (drop_next i es x h e) (w.to k));
          of = λ k. w.of (subst (OneIsInexact E) (sym (drop_next i es x h e)) (one_behind x (drop (i + 1) es) k));
        }
