-- What is asked in a tree is asked in what stands in it.
use Rattle.std.proofs.Common.{◌≡◌, Bool, List, [], ◌∷◌, ◌++◌, map, sym, subst}
use Rattle.go_base.specs.Lists.{Each}
use Rattle.go_rules.specs.Asks.{AreDistinctNames, Meets, TypeMeets, signature_names}
use Rattle.go_rules.specs.Environments.{Env}
use Rattle.go_rules.specs.Expressions.{CallsAt, calls_at, IsCall, call, call_receive_type, chain}
use Rattle.go_rules.specs.Nodes.{Node, PostLayer, Stands, element_parts, expression, expression_parts, parts, post, post_parts, signature, stands_here, stands_in, type, type_parts, value, value_parts}
use Rattle.go_rules.proofs.LocalOperand.{stands_within}
use Rattle.go_rules.proofs.LocalParts.{map_left}
use Rattle.go_rules.proofs.LocalTerms.{each_has}
use Rattle.go_syntax.specs.declared.expression.Element.{Element}
use Rattle.go_syntax.specs.declared.expression.ElementValue.{ElementValue, ElementValue-F, out-ElementValue}
use Rattle.go_syntax.specs.declared.expression.Expr.{Expr}
use Rattle.go_syntax.specs.declared.expression.Expr.TheVariants as expr
use Rattle.go_syntax.specs.declared.expression.Expr.TheVariants.{outs-Type as expr_type}
use Rattle.go_syntax.specs.declared.expression.Post.{Post}
use Rattle.go_syntax.specs.declared.types.«Type».{«Type» as Typ, «out-Type» as out-Typ}
use Rattle.go_syntax.specs.declared.types.«Type».TheVariants as typ
use Rattle.go_syntax.specs.declared.types.«Type».TheVariants.{outs-ReceiveChan as receive_type}
use Rattle.go_client_types.proofs.TypeForms.{meets_parts}

posts_next : (P : Node → Type 0) (xs ys : List Post) (x : Post) → Each P (map post (xs ++ x ∷ ys)) → Each P (map post (xs ++ x ∷ []))
posts_next P [] ys x h = (h.0, tt)
posts_next P (y ∷ xs) ys x h = (h.0, posts_next P xs ys x h.1)

module _ (G : Env) where
  abbrev pub Met : List Node → Type 0
  Met bs = Each (Meets G) bs

  -- what is asked of a tree itself
  abbrev NodeMeets : Node → Type 0
  NodeMeets (expression x) = Unit {0}
  NodeMeets (post x) = Unit {0}
  NodeMeets (value x) = Unit {0}
  NodeMeets (type t) = TypeMeets G (out-Typ t)
  NodeMeets (signature g) = AreDistinctNames (signature_names g)

  asked : (a b : Node) → Meets G a → Stands a b → NodeMeets b
  asked a (expression x) m s = tt
  asked a (post x) m s = tt
  asked a (value x) m s = tt
  asked a (type t) m s = m.types t s
  asked a (signature g) m s = m.signatures g s

  made_at : (a b : Node) → NodeMeets a → Met (parts a) → Stands a b → NodeMeets b
  made_at a b h k stands_here = h
  made_at a b h k (stands_in {b = c} i s) = asked c b (each_has (Meets G) (parts a) c k i) s

  -- a tree that meets what it is asked itself, and in its parts
  made : (a : Node) → NodeMeets a → Met (parts a) → Meets G a
  made a h k = record { types = λ t s. made_at a (type t) h k s; signatures = λ g s. made_at a (signature g) h k s }

  pub within : {a b : Node} → Meets G a → Stands a b → Meets G b
  within m k = record { types = λ t s. m.types t (stands_within k s); signatures = λ g s. m.signatures g (stands_within k s) }

  -- the operand type of a call that begins with `<-chan`
  receive_met : (t : Typ) → Meets G (type t) → Meets G (expression (expr.Type (typ.ReceiveChan t)))
  receive_met t h =
      let inner : Meets G (type (typ.ReceiveChan t)) = made (type (typ.ReceiveChan t)) (subst (TypeMeets G) (sym (receive_type t)) tt) (subst (λ l. Met (type_parts l)) (sym (receive_type t)) (h, tt)) in
      made (expression (expr.Type (typ.ReceiveChan t))) tt (subst (λ l. Met (expression_parts l)) (sym (expr_type (typ.ReceiveChan t))) (inner, tt))

  -- the arguments of a call
  pub call_met : {l : PostLayer} {es : List Expr} {dots : Bool} → IsCall l es dots → Met (post_parts l) → Met (map expression es)
  call_met call h = h
  call_met (call_receive_type {t = t}) h = (receive_met t h.0, h.1)

  -- an element of a composite literal
  pub value_met : (v : ElementValue) {e : Expr} → Meets G (value v) → out-ElementValue v ≡ ElementValue-F.Value e → Meets G (expression e)
  value_met v h e = (subst (λ l. Met (value_parts l)) e (meets_parts G (value v) h)).0

  pub literal_met : (v : ElementValue) {xs : List Element} → Meets G (value v) → out-ElementValue v ≡ ElementValue-F.«ElementValue::Literal» xs → Met (element_parts xs)
  literal_met v h e = subst (λ l. Met (value_parts l)) e (meets_parts G (value v) h)

  -- an operand with some of what follows it
  pub chain_met : (x : Expr) (ps : List Post) → Meets G (expression x) → Met (map post ps) → Met (expression_parts (chain x ps))
  chain_met x [] h k = meets_parts G (expression x) h
  chain_met x (p ∷ ps) h k = (h, k)

  -- the operand, and the posts up to a call
  pub record CallMet (x : Expr) (before : List Post) (c : Post) : Type 0 where
    pub operand : Meets G (expression x)
    pub posts : Met (map post before)
    pub all : Met (map post (before ++ c ∷ []))

  pub calls_met : {y x : Expr} {before : List Post} {c : Post} → Meets G (expression y) → CallsAt y x before c → CallMet x before c
  calls_met {y = y} {x = x} {before = before} {c = c} h (calls_at after e k) =
      let g = subst (λ l. Met (expression_parts l)) e (meets_parts G (expression y) h) in
      record { operand = g.0; posts = map_left (Meets G) post before (c ∷ after) g.1; all = posts_next (Meets G) before after c g.1 }
