-- Types as operands.
use Rattle.std.proofs.Common.{◌≡◌, refl, sym, ap, ◌∙◌, subst}
use Rattle.go_model.specs.declared.types.term.Direction.TheVariants as direction
use Rattle.go_model.specs.declared.types.term.Signature.{Signature as Signed}
use Rattle.go_model.specs.declared.types.term.Term.{Term, roll-Term, roll-out-Term}
use Rattle.go_model.specs.declared.types.term.Term.TheVariants as term
use Rattle.go_model.specs.declared.types.term.Term.TheVariants.{outs-Func}
use Rattle.go_rules.specs.Environments.{Env}
use Rattle.go_rules.specs.Expressions.{HasForm, has_function, has_receive_type, has_type, OfSignature, OfType}
use Rattle.go_rules.specs.Operands.{function_of, plain, type_name}
use Rattle.go_rules.specs.declared.operand.Operand.{Operand}
use Rattle.go_syntax.specs.declared.body.BodyRange.{BodyRange}
use Rattle.go_syntax.specs.declared.expression.Expr.{Expr-F}
use Rattle.go_syntax.specs.declared.types.Signature.{Signature, out-Signature}
use Rattle.go_syntax.specs.declared.types.«Type».{«Type» as Typ}
use Rattle.go_type_terms.specs.Results.{IsChannelOf}

module _ (E : Env) where
  pub to_type : (t : Typ) (u : Term) (o : Operand) → OfType E t u → o ≡ type_name u → HasForm E (Expr-F.«Expr::Type» t) o
  to_type t u o h i = subst (HasForm E (Expr-F.«Expr::Type» t)) (sym i) (has_type h)

  received : {t : Typ} {u : Term} → IsChannelOf E direction.ReceiveOnly t u → HasForm E (Expr-F.ParenReceiveChan t) (type_name u)
  received {t = t} c = subst (λ (u : Term). HasForm E (Expr-F.ParenReceiveChan t) (type_name u)) (sym c.2) (has_receive_type c.1)

  pub to_channel : (t : Typ) (u : Term) (o : Operand) → IsChannelOf E direction.ReceiveOnly t u → o ≡ type_name u → HasForm E (Expr-F.ParenReceiveChan t) o
  to_channel t u o c i = subst (HasForm E (Expr-F.ParenReceiveChan t)) (sym i) (received c)

  pub in_channel : {t : Typ} {o : Operand} → HasForm E (Expr-F.ParenReceiveChan t) o → (u : Term) × IsChannelOf E direction.ReceiveOnly t u
  in_channel (has_receive_type h) = (_, (_, h, refl))

  pub in_function : {g : Signature} {body : BodyRange} {o : Operand} → HasForm E (Expr-F.FuncLit g body) o → (h : Signed) × OfSignature E (out-Signature g).parameters (out-Signature g).result h
  in_function (has_function h) = (_, h)

  func_is : (h : Signed) → function_of h ≡ term.Func h
  func_is h = ap roll-Term (sym (outs-Func h)) ∙ roll-out-Term (term.Func h)

  pub to_function : (g : Signature) (body : BodyRange) (h : Signed) (o : Operand) → OfSignature E (out-Signature g).parameters (out-Signature g).result h → o ≡ plain (term.Func h) → HasForm E (Expr-F.FuncLit g body) o
  to_function g body h o s i = subst (HasForm E (Expr-F.FuncLit g body)) (sym i) (subst (λ (u : Term). HasForm E (Expr-F.FuncLit g body) (plain u)) (func_is h) (has_function s))
