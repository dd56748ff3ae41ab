-- Whether posts and arguments are loud, by their parts.
use Rattle.std.proofs.Common.{◌≡◌, List, [], ◌∷◌, ◌++◌, map, refl, sym, ap, ◌∙◌, subst, inl, inr, Bool, true, false}
use Rattle.go_rules.specs.Environments.{Env}
use Rattle.go_rules.specs.Expressions.{HoldsNone, holds_none, HoldsOne, holds_receive, holds_call, measures_arrays}
use Rattle.go_rules.specs.Nodes.{Node, PostLayer, TypeLayer, expression, post, post_parts, type as type_node, type_parts}
use Rattle.go_rules.specs.Operands.{builtin}
use Rattle.go_rules.specs.declared.operand.Operand.{Operand}
use Rattle.go_rules.specs.declared.predeclared.Predeclared.{Predeclared}
use Rattle.go_calls.specs.Calls.{IsLoud, IsTold}
use Rattle.go_syntax.specs.declared.expression.Expr.{Expr, Expr-F, out-Expr}
use Rattle.go_syntax.specs.declared.expression.Expr.TheVariants.{outs-Type}
use Rattle.go_syntax.specs.declared.expression.Post.{Post, Post-F, out-Post}
use Rattle.go_syntax.specs.declared.name.Name.{Name}
use Rattle.go_syntax.specs.declared.types.«Type».{«Type» as Typ, «Type-F» as Typ-F, «out-Type» as out-Typ}
use Rattle.go_syntax.specs.declared.types.«Type».TheVariants as type
use Rattle.go_syntax.specs.declared.types.«Type».TheVariants.{outs-ReceiveChan}
use Rattle.go_literals.specs.go_type_terms.Loudness.{AreLoud, Loud, loud_receive, loud_call, Quiet}
use Rattle.go_literals.proofs.go_type_terms_proofs.LoudTrees.{none_loud, parts_loud}
use Rattle.go_literals.proofs.go_operations_proofs.LoudForms.{form_loud}
use Rattle.go_expr.specs.Arguments.{receive_type}

no_expression : (x : Post) (e : Expr) → post x ≡ expression e → ⊥
no_expression x e i = absurd (cc)

no_expr : (t : Typ) (e : Expr) → type_node t ≡ expression e → ⊥
no_expr t e i = absurd (cc)

module _ (E : Env) where
  pub post_loud : (x : Post) (l : PostLayer) → out-Post x ≡ l → (b : Bool) → AreLoud E (post_parts l) b → AreLoud E (post x ∷ []) b
  post_loud x l i b h = parts_loud E (post x) (no_expression x) b (subst (λ (k : PostLayer). AreLoud E (post_parts k) b) (sym i) h)

  pub selector_quiet : (x : Post) (n : Name) → out-Post x ≡ Post-F.Selector n → Quiet E (post x)
  selector_quiet x n i = post_loud x (Post-F.Selector n) i false (none_loud E) (post x) (inl refl)

  -- ---- arguments of `len` and `cap`

  loud_one : {e : Expr} → Loud E (expression e) → HoldsOne E e
  loud_one (loud_receive x s r) = holds_receive x s r
  loud_one (loud_call y x before c s a o t r k) = holds_call y x before c s a o t r k

  pub is_loud : (e : Expr) (b : Bool) → AreLoud E (expression e ∷ []) b → IsLoud E e b
  is_loud e true (n, inl s, l) = loud_one (subst (Loud E) (sym s) l)
  is_loud e true (n, inr s, l) = absurd s
  is_loud e false h = let q = h (expression e) (inl refl) in holds_none q.receives q.calls

  alone : (es : List Expr) (e : Expr) (b : Bool) → es ≡ e ∷ [] → AreLoud E (map expression es) b → IsLoud E e b
  alone es e b i h = is_loud e b (subst (λ (xs : List Expr). AreLoud E (map expression xs) b) i h)

  pub told : (o : Operand) (es : List Expr) (b : Bool) → AreLoud E (map expression es) b → IsTold E o es b
  told o es b h = λ f e i m j. alone es e b j h

  receive_form : (t : Typ) → out-Expr (receive_type t) ≡ Expr-F.«Expr::Type» (type.ReceiveChan t)
  receive_form t = outs-Type (type.ReceiveChan t)

  pub receive_loud : (t : Typ) (b : Bool) → AreLoud E (type_node t ∷ []) b → AreLoud E (expression (receive_type t) ∷ []) b
  receive_loud t b h =
      form_loud E (receive_type t) (Expr-F.«Expr::Type» (type.ReceiveChan t)) (receive_form t) tt b
      (parts_loud E (type_node (type.ReceiveChan t)) (no_expr (type.ReceiveChan t)) b (subst (λ (l : TypeLayer). AreLoud E (type_parts l) b) (sym (outs-ReceiveChan t)) h))

  abbrev first_in : List Expr → Expr → Expr
  first_in [] d = d
  first_in (x ∷ xs) d = x

  abbrev others_in : List Expr → List Expr
  others_in [] = []
  others_in (x ∷ xs) = xs

  pub told_type : (o : Operand) (t : Typ) (es : List Expr) (b : Bool) → AreLoud E (type_node t ∷ map expression es) b → IsTold E o (receive_type t ∷ es) b
  told_type o t es b h = λ f e i m j.
      let only = subst (λ (xs : List Expr). AreLoud E (type_node t ∷ map expression xs) b) (ap others_in j) h in
      subst (λ (x : Expr). IsLoud E x b) (ap (λ xs. first_in xs e) j) (is_loud (receive_type t) b (receive_loud t b only))
