-- Whether an expression with its posts names a type that is basic underneath.
use Rattle.std.proofs.Common.{◌≡◌, Bool, List, Option, Some, None, sym, ◌∙◌, subst}
use Rattle.std.specs.Prelude.{is_some}
use Rattle.go_inexact.specs.Chains.{IsChain, NamesBasic}
use Rattle.go_model.specs.declared.constants.value.Basic.{Basic}
use Rattle.go_model.specs.declared.types.term.Term.{Term, Term-F}
use Rattle.go_model.specs.types.Underlying.{under}
use Rattle.go_rules.specs.Environments.{Env}
use Rattle.go_rules.specs.Operands.{type_name}
use Rattle.go_rules.specs.declared.operand.Operand.{Operand}
use Rattle.go_rules.proofs.OneName.{one_name}
use Rattle.go_rules.proofs.OneOperand.{form_once}
use Rattle.go_selectors.specs.Answers.{Decides}
use Rattle.go_syntax.specs.declared.expression.Expr.{Expr}
use Rattle.go_syntax.specs.declared.expression.Post.{Post}
use Rattle.go_usability.specs.Answers.{Gives}

module _ (E : Env) (e : Expr) (ps : List Post) where
  pub names_untyped : ((o : Operand) → IsChain E e ps o → ⊥) → NamesBasic E e ps → ⊥
  names_untyped none k = none (type_name k.type) k.is

  module _ (o : Operand) (h : IsChain E e ps o) where
    same : (k : NamesBasic E e ps) → o ≡ type_name k.type
    same k = form_once E h.0 k.is.0

    pub names_no_type : ((t : Term) → o ≡ type_name t → ⊥) → NamesBasic E e ps → ⊥
    names_no_type none k = none k.type (same k)

    module _ (t : Term) (q : o ≡ type_name t) where
      same_type : (k : NamesBasic E e ps) → k.type ≡ t
      same_type k = one_name (sym (same k) ∙ q)

      by : (r : Option Basic) → Gives (λ b. under E.table t ≡ Term-F.Plain b) r → Decides (is_some r) (NamesBasic E e ps)
      by None g = λ k. g k.basic (subst (λ (u : Term). under E.table u ≡ Term-F.Plain k.basic) (same_type k) k.under_it)
      by (Some b) g = record { type = t; is = subst (IsChain E e ps) q h; basic = b; under_it = g }

      pub names_decides : (r : Option Basic) (z : Bool) → Gives (λ b. under E.table t ≡ Term-F.Plain b) r → z ≡ is_some r → Decides z (NamesBasic E e ps)
      names_decides r z g i = subst (λ (y : Bool). Decides y (NamesBasic E e ps)) (sym i) (by r g)
