-- The values that names are given: each its own, or several by one call, or two by a map's element, an assertion or a receive.
-- Public source: Go specification, "Variable declarations", "Assignment statements", "Index expressions", "Type assertions"
-- and "Receive operator".
use Rattle.std.specs.Prelude.{◌≡◌, ◌≤◌, ℕ, List, [], ◌∷◌, ◌++◌, map, length}
use Rattle.go_references.specs.go_base.declared.operator.PrefixOperator.TheVariants as prefix
use Rattle.go_rules.specs.go_model.declared.constants.value.Untyped.{Untyped}
use Rattle.go_rules.specs.go_model.declared.constants.value.Untyped.TheVariants as untyped
use Rattle.go_rules.specs.go_model.declared.constants.value.Value.{Value}
use Rattle.go_rules.specs.go_model.declared.types.package.ConstTerm.TheVariants as constant
use Rattle.go_rules.specs.go_model.declared.types.term.Term.{Term}
use Rattle.go_references.specs.go_syntax.declared.expression.Expr.{Expr, Expr-F, out-Expr}
use Rattle.go_references.specs.go_syntax.declared.expression.Post.{Post, Post-F, out-Post}
use Rattle.go_references.specs.go_syntax.declared.types.«Type».{«Type» as Typ}
use Rattle.go_rules.specs.Environments.{Env}
use Rattle.go_rules.specs.Expressions.{Has, HasEach}
use Rattle.go_rules.specs.Operands.{IsTyped, constant_of, default_type, loose, plain, tuple, value_of}
use Rattle.go_rules.specs.Usability.{DefaultHolds}
use Rattle.go_rules.specs.declared.operand.Mode.TheVariants as mode
use Rattle.go_rules.specs.declared.operand.Operand.{Operand}

-- a type assertion or a receive, parentheses aside
pub data IsAssertionOrReceive : Expr → Type 0 where
  is_receive : {e x : Expr} → out-Expr e ≡ Expr-F.Prefix prefix.Receive x → IsAssertionOrReceive e
  is_assertion : {e x : Expr} {t : Typ} (ps : List Post) (p : Post) → out-Expr e ≡ Expr-F.Primary x (ps ++ p ∷ []) → out-Post p ≡ Post-F.TypeAssertion t → IsAssertionOrReceive e
  is_in_parentheses : {e x : Expr} → out-Expr e ≡ Expr-F.«Expr::Paren» x → IsAssertionOrReceive x → IsAssertionOrReceive e

-- the expression gives a value of this type and whether there was one
pub data GivesValueAndTruth (E : Env) : Expr → Term → Type 0 where
  two_of_map : {e : Expr} {t : Term} → Has E e (value_of mode.MapElement t) → GivesValueAndTruth E e t
  two_of_value : {e : Expr} {t : Term} → IsAssertionOrReceive e → Has E e (plain t) → GivesValueAndTruth E e t

-- the expressions give so many names these values
pub data Initialize (E : Env) (n : ℕ) : List Expr → List Operand → Type 0 where
  by_each : {es : List Expr} {os : List Operand} → HasEach E es os → length es ≡ n → Initialize E n es os
  by_call : {e : Expr} {ts : List Term} → Has E e (tuple ts) → length ts ≡ n → 2 ≤ n → Initialize E n (e ∷ []) (map plain ts)
  by_two : {e : Expr} {t : Term} → GivesValueAndTruth E e t → n ≡ 2 → Initialize E n (e ∷ []) (plain t ∷ loose untyped.BoolKind ∷ [])

-- the type of a variable that is given the value: the value's own, or its default type, which can hold it
pub data TypeOfValue (E : Env) : Operand → Term → Type 0 where
  own_type : {o : Operand} {t : Term} → IsTyped o t → TypeOfValue E o t
  default_of_constant : {k : Untyped} {v : Value} → DefaultHolds E k v → TypeOfValue E (constant_of (constant.OfKind k) v) (default_type k)
  default_of_truth : TypeOfValue E (loose untyped.BoolKind) (default_type untyped.BoolKind)

-- the types of variables that are given the values
pub data TypesOfValues (E : Env) : List Operand → List Term → Type 0 where
  types_none : TypesOfValues E [] []
  types_more : {o : Operand} {os : List Operand} {t : Term} {ts : List Term} → TypeOfValue E o t → TypesOfValues E os ts → TypesOfValues E (o ∷ os) (t ∷ ts)
