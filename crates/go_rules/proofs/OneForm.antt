-- An operator before an operand makes one operand, and so do a name of an imported package and chains of operators.
use Rattle.std.proofs.Common.{◌≡◌, Bool, true, false, Option, Some, None, refl, sym, ap, ◌∙◌, subst}
use Rattle.go_syntax.specs.go_base.declared.operator.CompareOp.{CompareOp}
use Rattle.go_syntax.specs.go_base.declared.operator.PrefixOperator.{PrefixOperator}
use Rattle.go_syntax.specs.go_base.declared.operator.PrefixOperator.TheVariants as prefix
use Rattle.go_model.specs.constants.Constants.{unary_value}
use Rattle.go_model.specs.declared.constants.value.BinaryOp.{BinaryOp}
use Rattle.go_model.specs.declared.constants.value.Kind.{Kind}
use Rattle.go_model.specs.declared.constants.value.UnaryOp.{UnaryOp}
use Rattle.go_model.specs.declared.constants.value.Value.{Value}
use Rattle.go_model.specs.declared.types.package.ConstTerm.{ConstTerm}
use Rattle.go_model.specs.declared.types.term.Direction.{Direction}
use Rattle.go_model.specs.declared.types.term.Term.{Term, Term-F}
use Rattle.go_model.specs.types.Terms.{Layer, pointer_to}
use Rattle.go_model.specs.types.Underlying.{under}
use Rattle.go_rules.specs.Environments.{Env}
use Rattle.go_rules.specs.Expressions.{Computes, Denotes, DenotesImported, Has, has_operand, HasForm, has_name, has_dereference, has_pointer_type, has_address, has_literal_address, has_receive, has_constant_prefix, has_prefix, IsComparison, ProductComputes, ProductKind, is_constant, is_type, unary_operator}
use Rattle.go_rules.specs.Nodes.{ExprLayer}
use Rattle.go_rules.specs.Operands.{HasKind, IsOf, IsTyped, typed_value, typed_constant, any_term, computed, constant_of, is_value_mode, nil, plain, type_name, variable}
use Rattle.go_rules.specs.declared.operand.Mode.{Mode}
use Rattle.go_rules.specs.declared.operand.Mode.TheVariants as mode
use Rattle.go_rules.specs.declared.operand.Operand.{Operand}
use Rattle.go_rules.proofs.OneKind.{no_truth, const_in, is_of, kind_in, kinded, term_in, typed, value_in}
use Rattle.go_rules.proofs.OneName.{no_import}
use Rattle.go_rules.proofs.OneResult.{constant_result, one_computes, one_comparison, one_product}
use Rattle.go_syntax.specs.declared.expression.Expr.{Expr, Expr-F, out-Expr}
use Rattle.go_syntax.specs.declared.name.Name.{Name}

-- the expression is this operand alone
abbrev pub Alone : Env → Expr → Operand → Type 0
Alone E e o = (q : Operand) → Has E e q → o ≡ q

-- ---- operators before an operand

value_no_type : (m : Mode) → is_value_mode m ≡ true → is_type m ≡ false
value_no_type mode.NoValue h = refl
value_no_type mode.TypeName h = absurd (no_truth (sym h))
value_no_type mode.Constant h = refl
value_no_type mode.Variable h = refl
value_no_type mode.Plain h = refl
value_no_type mode.MapElement h = refl
value_no_type mode.Nil h = refl
value_no_type mode.Builtin h = refl
value_no_type mode.Tuple h = refl

-- a value is no type
pub typed_no_type : {o : Operand} {t : Term} → IsTyped o t → is_type o.mode ≡ false
typed_no_type (typed_value {m = m} h) = value_no_type m h
typed_no_type typed_constant = refl

abbrev base_in : Layer → Term
base_in (Term-F.Pointer base) = base
base_in l = any_term

abbrev received_in : Layer → Term
received_in (Term-F.Chan d e) = e
received_in l = any_term

abbrev dereferenced : Env → Term → Bool → Operand
dereferenced E t true = type_name (pointer_to t)
dereferenced E t false = variable (base_in (under E.table t))

-- what the other operators make of an operand
abbrev special : Env → PrefixOperator → Operand → Operand
special E prefix.Dereference o = dereferenced E (term_in (const_in o.shape)) (is_type o.mode)
special E prefix.Address o = plain (pointer_to (term_in (const_in o.shape)))
special E prefix.Receive o = plain (received_in (under E.table (term_in (const_in o.shape))))
special E op o = nil

abbrev unary_result : Env → UnaryOp → Operand → Bool → Operand
unary_result E u o true = constant_result (const_in o.shape) (unary_value u (value_in o.shape) (kind_in E (const_in o.shape)) E.bits)
unary_result E u o false = computed (const_in o.shape)

abbrev prefix_by : Env → PrefixOperator → Operand → Option UnaryOp → Operand
prefix_by E op o (Some u) = unary_result E u o (is_constant o.mode)
prefix_by E op o None = special E op o

-- what an operator makes of an operand
abbrev pub prefix_of : Env → PrefixOperator → Operand → Operand
prefix_of E op o = prefix_by E op o (unary_operator op)

pub dereference_is : (E : Env) {o : Operand} {t u : Term} → IsTyped o t → under E.table t ≡ Term-F.Pointer u → prefix_of E prefix.Dereference o ≡ variable u
dereference_is E {o = o} h e = ap (dereferenced E (term_in (const_in o.shape))) (typed_no_type h) ∙ ap (λ c. variable (base_in (under E.table (term_in c)))) (typed h) ∙ ap (λ l. variable (base_in l)) e

pub receive_is : (E : Env) {o : Operand} {t u : Term} {d : Direction} → IsTyped o t → under E.table t ≡ Term-F.Chan d u → prefix_of E prefix.Receive o ≡ plain u
receive_is E h e = ap (λ c. plain (received_in (under E.table (term_in c)))) (typed h) ∙ ap (λ l. plain (received_in l)) e

pub constant_prefix_is : (E : Env) (op : PrefixOperator) {u : UnaryOp} {c : ConstTerm} (v : Value) {w : Value} {k : Kind} → unary_operator op ≡ Some u → HasKind E c k → unary_value u v k E.bits ≡ Some w → prefix_of E op (constant_of c v) ≡ constant_of c w
constant_prefix_is E op {u = u} {c = c} v f h e = ap (prefix_by E op (constant_of c v)) f ∙ ap (λ k. constant_result c (unary_value u v k E.bits)) (kinded h) ∙ ap (constant_result c) e

pub value_prefix_is : (E : Env) (op : PrefixOperator) {u : UnaryOp} {o : Operand} {c : ConstTerm} → unary_operator op ≡ Some u → is_constant o.mode ≡ false → IsOf o c → prefix_of E op o ≡ computed c
value_prefix_is E op {u = u} {o = o} f b h = ap (prefix_by E op o) f ∙ ap (unary_result E u o) b ∙ ap computed (is_of h)

-- an operator before an operand
record AfterPrefix (E : Env) (op : PrefixOperator) (e : Expr) (r : Operand) : Type 0 where
  operand : Operand
  has : Has E e operand
  is : prefix_of E op operand ≡ r

after_prefix : {E : Env} {op : PrefixOperator} {e : Expr} {r : Operand} → HasForm E (Expr-F.Prefix op e) r → AfterPrefix E op e r
after_prefix {E = E} (has_dereference {o = o} a h e) = record { operand = o; has = a; is = dereference_is E h e }
after_prefix (has_pointer_type {t = t} a) = record { operand = type_name t; has = a; is = refl }
after_prefix (has_address {t = t} a) = record { operand = variable t; has = a; is = refl }
after_prefix (has_literal_address {t = t} i a) = record { operand = plain t; has = a; is = refl }
after_prefix {E = E} (has_receive {o = o} a h e d) = record { operand = o; has = a; is = receive_is E h e }
after_prefix {E = E} (has_constant_prefix {op = op} {c = c} {v = v} f a h e) = record { operand = constant_of c v; has = a; is = constant_prefix_is E op v f h e }
after_prefix {E = E} (has_prefix {op = op} {o = o} f a b h k i) = record { operand = o; has = a; is = value_prefix_is E op f b h }

pub one_prefix : (E : Env) (op : PrefixOperator) {e : Expr} {o r s : Operand} → Alone E e o → prefix_of E op o ≡ r → HasForm E (Expr-F.Prefix op e) s → r ≡ s
one_prefix E op one is q = let a = after_prefix q in sym is ∙ ap (prefix_of E op) (one a.operand a.has) ∙ a.is

-- ---- imported packages

denotes_name : {E : Env} {n : Name} {o : Operand} → HasForm E (Expr-F.Name n) o → Denotes E n o
denotes_name (has_name d) = d

-- a name of an imported package is no operand
pub no_package : {E : Env} {e : Expr} {q n : Name} {o r : Operand} → Has E e o → out-Expr e ≡ Expr-F.Name q → DenotesImported E q n r → ⊥
no_package {E = E} {o = o} (has_operand a s) e d = no_import (denotes_name (subst (λ (l : ExprLayer). HasForm E l o) e a)) d

-- ---- chains

pub same_computes : {E : Env} {op : BinaryOp} {o p a b r s : Operand} → o ≡ p → a ≡ b → Computes E op o a r → Computes E op p b s → r ≡ s
same_computes {E = E} {op = op} {o = o} {b = b} {r = r} x y c d = one_computes (subst (λ z. Computes E op z b r) x (subst (λ z. Computes E op o z r) y c)) d

pub same_comparison : {E : Env} {op : CompareOp} {o p a b r s : Operand} → o ≡ p → a ≡ b → IsComparison E op o a r → IsComparison E op p b s → r ≡ s
same_comparison {E = E} {op = op} {o = o} {b = b} {r = r} x y c d = one_comparison (subst (λ z. IsComparison E op z b r) x (subst (λ z. IsComparison E op o z r) y c)) d

pub same_product : (E : Env) (k : ProductKind) {o p a b r s : Operand} → o ≡ p → a ≡ b → ProductComputes E k o a r → ProductComputes E k p b s → r ≡ s
same_product E k {o = o} {p = p} {b = b} {r = r} x y c d = one_product E k p b (subst (λ z. ProductComputes E k z b r) x (subst (λ z. ProductComputes E k o z r) y c)) d
