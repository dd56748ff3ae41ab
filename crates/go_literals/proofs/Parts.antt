-- Answers about parts, and whether they are loud.
use Rattle.std.proofs.Common.{◌≡◌, List, [], ◌∷◌, ◌++◌, append_assoc, refl, sym, ap, ◌∙◌, subst, Bool, true, false, ◌||◌, Result, Ok, Err}
use Rattle.std.specs.Prelude.{Option, Some, None}
use Rattle.std.specs.Result.{IsErrAnd}
use Rattle.go_rules.specs.Environments.{Env}
use Rattle.go_rules.specs.Expressions.{HasFieldKey, field_key}
use Rattle.go_rules.specs.Nodes.{Node, element_parts, expression, optional, parts, value as value_node, value_parts}
use Rattle.go_syntax.specs.declared.expression.Element.{Element, out-Element}
use Rattle.go_syntax.specs.declared.expression.ElementValue.{ElementValue, ElementValue-F, out-ElementValue}
use Rattle.go_syntax.specs.declared.expression.Expr.{Expr, Expr-F, out-Expr}
use Rattle.go_syntax.specs.declared.name.Name.{Name}
use Rattle.go_operations.specs.go_type_terms.Answers.{Holds, Types}
use Rattle.go_operations.specs.go_type_terms.Loudness.{AreLoud}
use Rattle.go_operations.specs.go_type_terms.declared.error.ExprError.{ExprError}
use Rattle.go_operations.specs.go_type_terms.declared.error.ExprError.TheVariants.{NoMemory, Untyped}
use Rattle.go_operations.proofs.go_type_terms_proofs.LoudTrees.{join_loud, none_loud, parts_loud}
use Rattle.go_operations.proofs.LoudForms.{form_loud}
use Rattle.go_literals.specs.Elements.{parts_of}

module _ (E : Env) where
  -- the same answer on another fact, and on the trees of which the parts are these
  pub holds_as : (P Q : Type 0) (ns ms : List Node) (r : Result Bool ExprError) → (P → Q) → (Q → P) → ((b : Bool) → AreLoud E ns b → AreLoud E ms b) → Holds E P ns r → Holds E Q ms r
  holds_as P Q ns ms (Ok b) to from l h = (to h.0, l b h.1)
  holds_as P Q ns ms (Err NoMemory) to from l h = tt
  holds_as P Q ns ms (Err Untyped) to from l h = λ q. h (from q)

  pub types_as : {A : Type 0} (P Q : A → Type 0) (ns ms : List Node) (r : Result (A × Bool) ExprError) → ((a : A) → P a → Q a) → ((a : A) → Q a → P a) → ((b : Bool) → AreLoud E ns b → AreLoud E ms b) → Types {A = A} E P ns r → Types {A = A} E Q ms r
  types_as P Q ns ms (Ok a) to from l h = (to a.0 h.0, l a.1 h.1)
  types_as P Q ns ms (Err NoMemory) to from l h = tt
  types_as P Q ns ms (Err Untyped) to from l h = λ a q. h a (from a q)

  -- the error is handed on, and what it is of doesn't hold either
  pub holds_handed : {A : Type 0} (P : A → Type 0) (Q : Type 0) (ns ms : List Node) (e : ExprError) (r : Result Bool ExprError)
      → IsErrAnd r (λ x. x ≡ e) → Types {A = A} E P ns (Err e) → (Q → (a : A) × P a) → Holds E Q ms r
  holds_handed P Q ns ms e (Ok a) h t f = absurd h
  holds_handed P Q ns ms e (Err NoMemory) h t f = tt
  holds_handed P Q ns ms Untyped (Err Untyped) h t f = λ q. t (f q).0 (f q).1
  holds_handed P Q ns ms NoMemory (Err Untyped) h t f = absurd (cc)

  pub held_handed : (P Q : Type 0) (ns ms : List Node) (e : ExprError) (r : Result Bool ExprError)
      → IsErrAnd r (λ x. x ≡ e) → Holds E P ns (Err e) → (Q → P) → Holds E Q ms r
  held_handed P Q ns ms e (Ok a) h t f = absurd h
  held_handed P Q ns ms e (Err NoMemory) h t f = tt
  held_handed P Q ns ms Untyped (Err Untyped) h t f = λ q. t (f q)
  held_handed P Q ns ms NoMemory (Err Untyped) h t f = absurd (cc)

  pub held_typed : {B : Type 0} (P : Type 0) (Q : B → Type 0) (ns ms : List Node) (e : ExprError) (r : Result (B × Bool) ExprError)
      → IsErrAnd r (λ x. x ≡ e) → Holds E P ns (Err e) → ((b : B) → Q b → P) → Types {A = B} E Q ms r
  held_typed P Q ns ms e (Ok a) h t f = absurd h
  held_typed P Q ns ms e (Err NoMemory) h t f = tt
  held_typed P Q ns ms Untyped (Err Untyped) h t f = λ b q. t (f b q)
  held_typed P Q ns ms NoMemory (Err Untyped) h t f = absurd (cc)

  pub holds_starved : (Q : Type 0) (ms : List Node) (r : Result Bool ExprError) → IsErrAnd r (λ x. x ≡ NoMemory) → Holds E Q ms r
  holds_starved Q ms (Ok a) h = absurd h
  holds_starved Q ms (Err NoMemory) h = tt
  holds_starved Q ms (Err Untyped) h = absurd (cc)

  -- ---- keys and values

  no_expression : (v : ElementValue) (x : Expr) → value_node v ≡ expression x → ⊥
  no_expression v x e = absurd (cc)

  pub value_loud : (v : ElementValue) (ms : List Node) → value_parts (out-ElementValue v) ≡ ms → (b : Bool) → AreLoud E ms b → AreLoud E (value_node v ∷ []) b
  value_loud v ms e b h = parts_loud E (value_node v) (no_expression v) b (subst (λ (ns : List Node). AreLoud E ns b) (sym e) h)

  pub expr_value_loud : (v : ElementValue) (x : Expr) → out-ElementValue v ≡ ElementValue-F.Value x → (b : Bool) → AreLoud E (expression x ∷ []) b → AreLoud E (value_node v ∷ []) b
  expr_value_loud v x e b h = value_loud v (expression x ∷ []) (ap value_parts e) b h

  pub bare_value_loud : (v : ElementValue) (xs : List Element) → out-ElementValue v ≡ ElementValue-F.«ElementValue::Literal» xs → (b : Bool) → AreLoud E (element_parts xs) b → AreLoud E (value_node v ∷ []) b
  bare_value_loud v xs e b h = value_loud v (element_parts xs) (ap value_parts e) b h

  -- a name is quiet
  pub name_quiet : (v : ElementValue) (x : Expr) (n : Name) → out-ElementValue v ≡ ElementValue-F.Value x → out-Expr x ≡ Expr-F.Name n → AreLoud E (value_node v ∷ []) false
  name_quiet v x n e i = expr_value_loud v x e false (form_loud E x (Expr-F.Name n) i tt false (none_loud E))

  -- ---- elements

  pub parts_join : (x : Element) (xs : List Element) → element_parts (x ∷ xs) ≡ parts_of x ++ element_parts xs
  parts_join x xs = sym (append_assoc (optional value_node (out-Element x).key) (value_node (out-Element x).value ∷ []) (element_parts xs))

  pub element_loud : (x : Element) (a b : Bool) → AreLoud E (optional value_node (out-Element x).key) a → AreLoud E (value_node (out-Element x).value ∷ []) b → AreLoud E (parts_of x) (a || b)
  element_loud x a b h k = join_loud E (optional value_node (out-Element x).key) (value_node (out-Element x).value ∷ []) a b h k

  pub no_key_loud : (x : Element) → (out-Element x).key ≡ None → AreLoud E (optional value_node (out-Element x).key) false
  no_key_loud x e = subst (λ (k : Option ElementValue). AreLoud E (optional value_node k) false) (sym e) (none_loud E)

  pub key_loud : (x : Element) (v : ElementValue) (b : Bool) → (out-Element x).key ≡ Some v → AreLoud E (value_node v ∷ []) b → AreLoud E (optional value_node (out-Element x).key) b
  key_loud x v b e h = subst (λ (k : Option ElementValue). AreLoud E (optional value_node k) b) (sym e) h

  -- a key that is a name is quiet
  pub key_quiet : {x : Element} {n : Name} → HasFieldKey x n → AreLoud E (optional value_node (out-Element x).key) false
  key_quiet {x = x} {n = n} (field_key {v = v} {e = e} i j k) = key_loud x v false i (name_quiet v e n j k)
