-- Trees that the rules type, and those in them that they don't: keys of struct literals, and names of imports.
-- Own: words on trees.
use Rattle.std.specs.Prelude.{◌≡◌}
use Rattle.go_model.specs.declared.types.term.Signature.{Signature}
use Rattle.go_model.specs.declared.types.term.Term.{Term}
use Rattle.go_rules.specs.Environments.{Env}
use Rattle.go_rules.specs.Expressions.{ElementFits, Has, HasPost, OfSignature, OfType}
use Rattle.go_rules.specs.Nodes.{Node, expression, post, signature, type, value}
use Rattle.go_rules.specs.declared.operand.Operand.{Operand}
use Rattle.go_syntax.specs.declared.expression.ElementValue.{ElementValue, ElementValue-F, out-ElementValue}
use Rattle.go_syntax.specs.declared.expression.Expr.{Expr, Expr-F, out-Expr}
use Rattle.go_syntax.specs.declared.expression.Post.{Post, Post-F, out-Post}
use Rattle.go_syntax.specs.declared.name.Name.{Name}
use Rattle.go_syntax.specs.declared.types.Signature.{Signature as Sig, out-Signature as out-Sig}
use Rattle.go_syntax.specs.declared.types.«Type».{«Type» as Typ}

-- a typed tree, or one that is bare: a name that may be a key or an import, and the selector behind an import
pub data IsTypedNode (E : Env) : Node → Type 0 where
  typed_expression : {e : Expr} {o : Operand} → Has E e o → IsTypedNode E (expression e)
  bare_name : {e : Expr} {n : Name} → out-Expr e ≡ Expr-F.Name n → IsTypedNode E (expression e)
  typed_post : {p : Post} {o r : Operand} → HasPost E o (out-Post p) r → IsTypedNode E (post p)
  bare_selector : {p : Post} {n : Name} → out-Post p ≡ Post-F.Selector n → IsTypedNode E (post p)
  typed_value : {v : ElementValue} {t : Term} → ElementFits E t v → IsTypedNode E (value v)
  typed_key : {v : ElementValue} {e : Expr} {o : Operand} → out-ElementValue v ≡ ElementValue-F.Value e → Has E e o → IsTypedNode E (value v)
  bare_key : {v : ElementValue} {e : Expr} {n : Name} → out-ElementValue v ≡ ElementValue-F.Value e → out-Expr e ≡ Expr-F.Name n → IsTypedNode E (value v)
  typed_type : {t : Typ} {u : Term} → OfType E t u → IsTypedNode E (type t)
  typed_signature : {g : Sig} {h : Signature} → OfSignature E (out-Sig g).parameters (out-Sig g).result h → IsTypedNode E (signature g)
