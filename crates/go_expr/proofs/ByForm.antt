-- What expressions are, by their forms.
use Rattle.std.proofs.Common.{◌≡◌, List, [], ◌∷◌, ◌++◌, map, length, refl, sym, ap, ◌∙◌, subst, Bool, false, Result, Ok, Err}
use Rattle.std.specs.Prelude.{replicate}
use Rattle.go_base.specs.declared.operator.CompareOp.{CompareOp}
use Rattle.go_base.specs.declared.operator.PrefixOperator.{PrefixOperator}
use Rattle.go_base.specs.declared.operator.ProductOperator.{ProductOperator}
use Rattle.go_base.specs.declared.operator.SumOperator.{SumOperator}
use Rattle.go_model.specs.declared.constants.value.BinaryOp.TheVariants as binary
use Rattle.go_rules.specs.Environments.{Env}
use Rattle.go_rules.specs.Expressions.{Denotes, Has, has_operand, HasForm, has_name, has_paren}
use Rattle.go_rules.specs.Nodes.{ExprLayer, Node, element_parts, expression, expression_parts, signature as signature_node, type as type_node}
use Rattle.go_rules.specs.Operands.{ShapeWithin}
use Rattle.go_rules.specs.declared.operand.Operand.{Operand}
use Rattle.go_rules.proofs.OneOperand.{form_once}
use Rattle.go_syntax.specs.declared.body.BodyRange.{BodyRange}
use Rattle.go_syntax.specs.declared.expression.Element.{Element}
use Rattle.go_syntax.specs.declared.expression.Expr.{Expr, Expr-F, out-Expr}
use Rattle.go_syntax.specs.declared.expression.Literal.{Literal}
use Rattle.go_syntax.specs.declared.name.Name.{Name}
use Rattle.go_syntax.specs.declared.types.Signature.{Signature}
use Rattle.go_syntax.specs.declared.types.«Type».{«Type» as Typ}
use Rattle.go_literals.specs.go_type_terms.Answers.{Tells, Types}
use Rattle.go_literals.specs.go_type_terms.Loudness.{AreLoud}
use Rattle.go_literals.specs.go_type_terms.declared.error.ExprError.{ExprError}
use Rattle.go_literals.specs.go_type_terms.declared.error.ExprError.TheVariants.{NoMemory, Untyped}
use Rattle.go_literals.proofs.go_type_terms_proofs.LoudTrees.{none_loud}
use Rattle.go_literals.specs.go_operations.Chains.{ChainsFrom}
use Rattle.go_literals.specs.go_operations.declared.operators.Operator.TheVariants as operator
use Rattle.go_literals.proofs.go_operations_proofs.Chaining.{to_or, in_or, to_and, in_and, to_compare, in_compare, to_sum, in_sum, to_product, in_product}
use Rattle.go_literals.proofs.go_operations_proofs.LoudForms.{IsPlainForm, form_loud}

module _ (E : Env) (e : Expr) where
  abbrev pub Formed : Result (Operand × Bool) ExprError → Type 0
  Formed r = Types {A = Operand} E (HasForm E (out-Expr e)) (expression e ∷ []) r

  formed : (l : ExprLayer) → out-Expr e ≡ l → (P : Operand → Type 0) (r : Result (Operand × Bool) ExprError) → ((a : Operand) → P a → HasForm E l a) → ((a : Operand) → HasForm E l a → P a)
      → (ns : List Node) → ((b : Bool) → AreLoud E ns b → AreLoud E (expression e ∷ []) b) → Types {A = Operand} E P ns r → Formed r
  formed l i P (Ok a) to from ns loud t = (subst (λ (k : ExprLayer). HasForm E k a.0) (sym i) (to a.0 t.0), loud a.1 t.1)
  formed l i P (Err NoMemory) to from ns loud t = tt
  formed l i P (Err Untyped) to from ns loud t = λ a h. t a (from a (subst (λ (k : ExprLayer). HasForm E k a) i h))

  plain_formed : (l : ExprLayer) → out-Expr e ≡ l → IsPlainForm E l → (P : Operand → Type 0) (r : Result (Operand × Bool) ExprError) → ((a : Operand) → P a → HasForm E l a) → ((a : Operand) → HasForm E l a → P a)
      → Types {A = Operand} E P (expression_parts l) r → Formed r
  plain_formed l i p P r to from t = formed l i P r to from (expression_parts l) (form_loud E e l i p) t

  -- an answer on the form itself, whose parts are these
  pub same_form : (l : ExprLayer) → out-Expr e ≡ l → IsPlainForm E l → (r : Result (Operand × Bool) ExprError) → Types {A = Operand} E (HasForm E l) (expression_parts l) r → Formed r
  same_form l i p r t = plain_formed l i p (HasForm E l) r (λ a h. h) (λ a h. h) t

  -- an answer on the form itself, and on the whole
  pub whole_form : (l : ExprLayer) → out-Expr e ≡ l → (r : Result (Operand × Bool) ExprError) → Types {A = Operand} E (HasForm E l) (expression e ∷ []) r → Formed r
  whole_form l i r t = formed l i (HasForm E l) r (λ a h. h) (λ a h. h) (expression e ∷ []) (λ b h. h) t

  pub or_form : (x : Expr) (es : List Expr) → out-Expr e ≡ Expr-F.Or x es → (r : Result (Operand × Bool) ExprError) → Types {A = Operand} E (ChainsFrom E (replicate (length es) (operator.Logical binary.LogicalOr)) x es) (expression x ∷ map expression es) r → Formed r
  or_form x es i r t = plain_formed (Expr-F.Or x es) i tt _ r (to_or E x es) (in_or E x es) t

  pub and_form : (x : Expr) (es : List Expr) → out-Expr e ≡ Expr-F.And x es → (r : Result (Operand × Bool) ExprError) → Types {A = Operand} E (ChainsFrom E (replicate (length es) (operator.Logical binary.LogicalAnd)) x es) (expression x ∷ map expression es) r → Formed r
  and_form x es i r t = plain_formed (Expr-F.And x es) i tt _ r (to_and E x es) (in_and E x es) t

  pub compare_form : (x : Expr) (ops : List CompareOp) (es : List Expr) → out-Expr e ≡ Expr-F.Compare x ops es → (r : Result (Operand × Bool) ExprError) → Types {A = Operand} E (ChainsFrom E (map operator.Compare ops) x es) (expression x ∷ map expression es) r → Formed r
  compare_form x ops es i r t = plain_formed (Expr-F.Compare x ops es) i tt _ r (to_compare E x ops es) (in_compare E x ops es) t

  pub sum_form : (x : Expr) (ops : List SumOperator) (es : List Expr) → out-Expr e ≡ Expr-F.Sum x ops es → (r : Result (Operand × Bool) ExprError) → Types {A = Operand} E (ChainsFrom E (map operator.Sum ops) x es) (expression x ∷ map expression es) r → Formed r
  sum_form x ops es i r t = plain_formed (Expr-F.Sum x ops es) i tt _ r (to_sum E x ops es) (in_sum E x ops es) t

  pub product_form : (x : Expr) (ops : List ProductOperator) (es : List Expr) → out-Expr e ≡ Expr-F.Product x ops es → (r : Result (Operand × Bool) ExprError) → Types {A = Operand} E (ChainsFrom E (map operator.Product ops) x es) (expression x ∷ map expression es) r → Formed r
  product_form x ops es i r t = plain_formed (Expr-F.Product x ops es) i tt _ r (to_product E x ops es) (in_product E x ops es) t

  paren_in : {x : Expr} (a : Operand) → HasForm E (Expr-F.«Expr::Paren» x) a → Has E x a
  paren_in a (has_paren h) = h

  pub paren_form : (x : Expr) → out-Expr e ≡ Expr-F.«Expr::Paren» x → (r : Result (Operand × Bool) ExprError) → Types {A = Operand} E (Has E x) (expression x ∷ []) r → Formed r
  paren_form x i r t = plain_formed (Expr-F.«Expr::Paren» x) i tt (Has E x) r (λ a h. has_paren h) paren_in t

  -- ---- forms without parts

  name_in : {n : Name} (a : Operand) → HasForm E (Expr-F.Name n) a → Denotes E n a
  name_in a (has_name d) = d

  pub name_some : (n : Name) → out-Expr e ≡ Expr-F.Name n → (a : Operand) → Denotes E n a → HasForm E (out-Expr e) a × AreLoud E (expression e ∷ []) false
  name_some n i a d = (subst (λ (k : ExprLayer). HasForm E k a) (sym i) (has_name d), form_loud E e (Expr-F.Name n) i tt false (none_loud E))

  pub name_none : (n : Name) → out-Expr e ≡ Expr-F.Name n → (a : Operand) → HasForm E (out-Expr e) a → (b : Operand) × Denotes E n b
  name_none n i a h = (a, name_in a (subst (λ (k : ExprLayer). HasForm E k a) i h))

  pub literal_some : (t : Literal) → out-Expr e ≡ Expr-F.«Expr::Literal» t → (a : Operand) → HasForm E (Expr-F.«Expr::Literal» t) a → HasForm E (out-Expr e) a × AreLoud E (expression e ∷ []) false
  literal_some t i a d = (subst (λ (k : ExprLayer). HasForm E k a) (sym i) d, form_loud E e (Expr-F.«Expr::Literal» t) i tt false (none_loud E))

  pub literal_none : (t : Literal) → out-Expr e ≡ Expr-F.«Expr::Literal» t → (a : Operand) → HasForm E (out-Expr e) a → (b : Operand) × HasForm E (Expr-F.«Expr::Literal» t) b
  literal_none t i a h = (a, subst (λ (k : ExprLayer). HasForm E k a) i h)

  -- ---- within bounds

  whole_in : {a : Operand} → Has E e a → HasForm E (out-Expr e) a × ShapeWithin a.shape
  whole_in (has_operand h w) = (h, w)

  pub form_of : (a : Operand) → Has E e a → (b : Operand) × HasForm E (out-Expr e) b
  form_of a h = (a, (whole_in h).0)

  pub whole_out : (o : Operand) → HasForm E (out-Expr e) o → (ShapeWithin o.shape → ⊥) → (a : Operand) → Has E e a → ⊥
  whole_out o f none a h = let w = whole_in h in none (subst (λ (q : Operand). ShapeWithin q.shape) (form_once E w.0 f) w.1)
