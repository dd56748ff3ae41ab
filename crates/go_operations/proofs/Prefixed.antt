-- Operators before an operand, by what the operand is.
use Rattle.std.proofs.Common.{◌≡◌, refl, sym, ap, ◌∙◌, subst, Bool, true, false, List, Some}
use Rattle.go_base.specs.declared.operator.PrefixOperator.{PrefixOperator}
use Rattle.go_base.specs.declared.operator.PrefixOperator.TheVariants as prefix
use Rattle.go_model.specs.declared.constants.value.UnaryOp.{UnaryOp}
use Rattle.go_model.specs.declared.constants.value.UnaryOp.TheVariants as unary
use Rattle.go_rules.specs.Environments.{Env}
use Rattle.go_rules.specs.Expressions.{Has, HasForm, has_dereference, has_pointer_type, has_address, has_literal_address, has_receive, has_constant_prefix, has_prefix, IsComposite, composite, composite_array, composite_paren, unary_operator}
use Rattle.go_rules.specs.Nodes.{ExprLayer}
use Rattle.go_rules.specs.declared.operand.Operand.{Operand}
use Rattle.go_rules.proofs.OneOperand.{has_once}
use Rattle.go_operators.specs.Prefixes.{Addresses, addresses_variable, addresses_literal, Changes, changes_constant, changes_value, Dereferences, dereferences_value, dereferences_type, Prefixes, Receives, receives_element}
use Rattle.go_operators.specs.go_selectors.Answers.{Decides}
use Rattle.go_syntax.specs.declared.expression.Element.{Element}
use Rattle.go_syntax.specs.declared.expression.Expr.{Expr, Expr-F, out-Expr}
use Rattle.go_syntax.specs.declared.types.«Type».{«Type» as Typ}
use Rattle.go_operations.proofs.Typed.{none_some, one_some}

-- the operators that change a value
changes_of : (E : Env) (op : PrefixOperator) (b : Bool) (u : UnaryOp) (o r : Operand) → unary_operator op ≡ Some u → Changes E u o r → Prefixes E op b o r
changes_of E prefix.Plus b u o r e c = subst (λ (v : UnaryOp). Changes E v o r) (sym (one_some e)) c
changes_of E prefix.Minus b u o r e c = subst (λ (v : UnaryOp). Changes E v o r) (sym (one_some e)) c
changes_of E prefix.Not b u o r e c = subst (λ (v : UnaryOp). Changes E v o r) (sym (one_some e)) c
changes_of E prefix.Xor b u o r e c = subst (λ (v : UnaryOp). Changes E v o r) (sym (one_some e)) c
changes_of E prefix.Dereference b u o r e c = absurd (none_some e)
changes_of E prefix.Address b u o r e c = absurd (none_some e)
changes_of E prefix.Receive b u o r e c = absurd (none_some e)

-- a composite literal, where the test tells one
decided : (e : Expr) (b : Bool) → Decides b (IsComposite e) → IsComposite e → b ≡ true
decided e true d h = refl
decided e false d h = absurd (d h)

is_so : (e : Expr) (b : Bool) → Decides b (IsComposite e) → b ≡ true → IsComposite e
is_so e true d h = d
is_so e false d h = absurd (cc)

module _ (E : Env) (e : Expr) (b : Bool) (d : Decides b (IsComposite e)) where
  changed : (op : PrefixOperator) (u : UnaryOp) (o r : Operand) → unary_operator op ≡ Some u → Has E e o → Changes E u o r → HasForm E (Expr-F.Prefix op e) r
  changed op u o r i h (changes_constant k v) = has_constant_prefix i h k v
  changed op u o r i h (changes_value n k j a) = has_prefix i h n k j a

  dereferenced : (o r : Operand) → Has E e o → Dereferences E o r → HasForm E (Expr-F.Prefix prefix.Dereference e) r
  dereferenced o r h (dereferences_value t u) = has_dereference h t u
  dereferenced o r h dereferences_type = has_pointer_type h

  addressed : (c : Bool) (o r : Operand) → c ≡ b → Has E e o → Addresses c o r → HasForm E (Expr-F.Prefix prefix.Address e) r
  addressed c o r i h addresses_variable = has_address h
  addressed c o r i h addresses_literal = has_literal_address (is_so e b d (sym i)) h

  received : (o r : Operand) → Has E e o → Receives E o r → HasForm E (Expr-F.Prefix prefix.Receive e) r
  received o r h (receives_element t u i) = has_receive h t u i

  -- what the operator makes of what the expression is
  pub to_prefix : (op : PrefixOperator) (o r : Operand) → Has E e o → Prefixes E op b o r → HasForm E (Expr-F.Prefix op e) r
  to_prefix prefix.Plus o r h p = changed prefix.Plus unary.Plus o r refl h p
  to_prefix prefix.Minus o r h p = changed prefix.Minus unary.Minus o r refl h p
  to_prefix prefix.Not o r h p = changed prefix.Not unary.Not o r refl h p
  to_prefix prefix.Xor o r h p = changed prefix.Xor unary.Xor o r refl h p
  to_prefix prefix.Dereference o r h p = dereferenced o r h p
  to_prefix prefix.Address o r h p = addressed b o r refl h p
  to_prefix prefix.Receive o r h p = received o r h p

  literal_address : (c : Bool) (o r : Operand) → c ≡ true → Addresses true o r → Addresses c o r
  literal_address c o r i a = subst (λ (x : Bool). Addresses x o r) (sym i) a

  pub in_prefix : {op : PrefixOperator} {r : Operand} → HasForm E (Expr-F.Prefix op e) r → (o : Operand) × Has E e o × Prefixes E op b o r
  in_prefix (has_dereference h t u) = (_, h, dereferences_value t u)
  in_prefix (has_pointer_type h) = (_, h, dereferences_type)
  in_prefix (has_address h) = (_, h, addresses_variable)
  in_prefix (has_literal_address c h) = (_, h, literal_address b _ _ (decided e b d c) addresses_literal)
  in_prefix (has_receive h t u i) = (_, h, receives_element t u i)
  in_prefix {op = op} (has_constant_prefix {u = u} i h k v) = (_, h, changes_of E op b u _ _ i (changes_constant k v))
  in_prefix {op = op} (has_prefix {u = u} i h n k j a) = (_, h, changes_of E op b u _ _ i (changes_value n k j a))

  pub no_prefix : (op : PrefixOperator) (o : Operand) → Has E e o → ((r : Operand) → Prefixes E op b o r → ⊥) → (r : Operand) → HasForm E (Expr-F.Prefix op e) r → ⊥
  no_prefix op o h none r f = let p = in_prefix f in none r (subst (λ (q : Operand). Prefixes E op b q r) (has_once E p.1 h) p.2)

  pub no_operand : (op : PrefixOperator) → ((o : Operand) → Has E e o → ⊥) → (r : Operand) → HasForm E (Expr-F.Prefix op e) r → ⊥
  no_operand op none r f = let p = in_prefix f in none p.0 p.1

-- ---- composite literals

abbrev paren_in : ExprLayer → Expr → Expr
paren_in (Expr-F.«Expr::Paren» x) d = x
paren_in l d = d

inner : {e x : Expr} → out-Expr e ≡ Expr-F.«Expr::Paren» x → IsComposite e → IsComposite x
inner i (composite j) = absurd (apart (sym j ∙ i))
  where
    apart : {t : Typ} {xs : List Element} {x : Expr} → ◌≡◌ {A = ExprLayer} (Expr-F.Composite t xs) (Expr-F.«Expr::Paren» x) → ⊥
    apart k = absurd (cc)
inner i (composite_array j) = absurd (apart (sym j ∙ i))
  where
    apart : {t : Typ} {xs : List Element} {x : Expr} → ◌≡◌ {A = ExprLayer} (Expr-F.CompositeArray t xs) (Expr-F.«Expr::Paren» x) → ⊥
    apart k = absurd (cc)
inner {x = x} i (composite_paren {x = y} j h) = subst IsComposite (ap (λ (l : ExprLayer). paren_in l y) (sym j ∙ i)) h

pub paren_composite : (e x : Expr) → out-Expr e ≡ Expr-F.«Expr::Paren» x → (b : Bool) → Decides b (IsComposite x) → Decides b (IsComposite e)
paren_composite e x i true d = composite_paren i d
paren_composite e x i false d = λ h. d (inner i h)

pub paren_is : (e x y : Expr) (b : Bool) → out-Expr e ≡ Expr-F.«Expr::Paren» x → y ≡ x → Decides b (IsComposite y) → Decides b (IsComposite e)
paren_is e x y b i j d = paren_composite e x i b (subst (λ (z : Expr). Decides b (IsComposite z)) j d)
