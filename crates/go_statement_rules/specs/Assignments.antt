-- What values are assigned to, and what short variable declarations declare.
-- Public source: Go specification, "Assignment statements", "Short variable declarations", "IncDec statements", "Return statements" and
-- "Expression statements".
use Rattle.std.specs.Prelude.{◌≡◌, pos, Bool, true, false, List, [], ◌∷◌, ◌++◌, map, Option, None, Some}
use Rattle.go_base.specs.declared.operator.AssignOperator.{AssignOperator}
use Rattle.go_base.specs.declared.operator.AssignOperator.TheVariants as assign
use Rattle.go_base.specs.declared.operator.PrefixOperator.TheVariants as prefix
use Rattle.go_base.specs.declared.operator.StepOperator.{StepOperator}
use Rattle.go_base.specs.declared.operator.StepOperator.TheVariants as step
use Rattle.go_model.specs.declared.constants.value.BinaryOp.{BinaryOp}
use Rattle.go_model.specs.declared.constants.value.BinaryOp.TheVariants as binary
use Rattle.go_model.specs.declared.constants.value.Untyped.TheVariants as untyped
use Rattle.go_model.specs.declared.constants.value.Value.TheVariants as value
use Rattle.go_model.specs.declared.types.package.ConstTerm.TheVariants as constant
use Rattle.go_model.specs.declared.types.term.Term.{Term}
use Rattle.go_typings.specs.go_rules.Environments.{Env}
use Rattle.go_typings.specs.go_rules.Expressions.{Has, HasEach, HasForm, IsCall, chain, Computes, ProductComputes, product_operator, sum_operator, is_blank}
use Rattle.go_typings.specs.go_rules.Names.{Named, value_at}
use Rattle.go_typings.specs.go_rules.Operands.{constant_of, plain, tuple, value_of}
use Rattle.go_typings.specs.go_rules.Usability.{UsableAs}
use Rattle.go_typings.specs.go_rules.declared.operand.Mode.{Mode}
use Rattle.go_typings.specs.go_rules.declared.operand.Mode.TheVariants as mode
use Rattle.go_typings.specs.go_rules.declared.operand.Operand.{Operand}
use Rattle.go_typings.specs.go_rules.declared.operand.Shape.{Shape}
use Rattle.go_typings.specs.go_rules.declared.operand.Shape.TheVariants as shape
use Rattle.go_typings.specs.go_rules.declared.predeclared.Predeclared.{Predeclared}
use Rattle.go_typings.specs.go_rules.declared.predeclared.Predeclared.TheVariants as p
use Rattle.go_typings.specs.go_rules.declared.seen.Seen.{Seen}
use Rattle.go_typings.specs.go_rules.declared.seen.Seen.TheVariants as seen
use Rattle.go_syntax.specs.declared.expression.Expr.{Expr, Expr-F, out-Expr}
use Rattle.go_syntax.specs.declared.expression.Post.{Post, out-Post}
use Rattle.go_syntax.specs.declared.name.Name.{Name}
use Rattle.go_typings.specs.Initializers.{TypeOfValue}

-- ---- what stands alone

-- the builtin functions whose calls stand alone
abbrev pub stands_alone : Predeclared → Bool
stands_alone p.Append = false
stands_alone p.Cap = false
stands_alone p.Len = false
stands_alone p.Make = false
stands_alone p.New = false
stands_alone f = true

abbrev pub shape_stands_alone : Shape → Bool
shape_stands_alone (shape.OfBuiltin f) = stands_alone f
shape_stands_alone s = true

-- a call of it isn't a conversion, and is a statement
abbrev pub may_be_called_alone : Mode → Shape → Bool
may_be_called_alone mode.TypeName s = false
may_be_called_alone m s = shape_stands_alone s

-- a call that is a statement, parentheses aside
pub data IsCallAlone (E : Env) : Expr → Type 0 where
  call_alone : {e x : Expr} (before : List Post) (c : Post) {es : List Expr} {dots : Bool} {o : Operand} → out-Expr e ≡ Expr-F.Primary x (before ++ c ∷ []) → IsCall (out-Post c) es dots
      → HasForm E (chain x before) o → may_be_called_alone o.mode o.shape ≡ true → IsCallAlone E e
  call_in_parentheses : {e x : Expr} → out-Expr e ≡ Expr-F.«Expr::Paren» x → IsCallAlone E x → IsCallAlone E e

-- a receive, parentheses aside
pub data IsReceiveAlone : Expr → Type 0 where
  receive_alone : {e x : Expr} → out-Expr e ≡ Expr-F.Prefix prefix.Receive x → IsReceiveAlone e
  receive_in_parentheses : {e x : Expr} → out-Expr e ≡ Expr-F.«Expr::Paren» x → IsReceiveAlone x → IsReceiveAlone e

-- ---- what is assigned to

-- a variable or an element of a map
abbrev pub is_assignable : Mode → Bool
is_assignable mode.Variable = true
is_assignable mode.MapElement = true
is_assignable m = false

-- the operand is assigned values of this type
pub data IsAssigned : Operand → Term → Type 0 where
  is_assigned : {m : Mode} {t : Term} → is_assignable m ≡ true → IsAssigned (value_of m t) t

-- the blank name, parentheses aside
pub data IsBlankSide : Expr → Type 0 where
  blank_side : {e : Expr} {n : Name} → out-Expr e ≡ Expr-F.Name n → is_blank n.text ≡ true → IsBlankSide e
  blank_in_parentheses : {e x : Expr} → out-Expr e ≡ Expr-F.«Expr::Paren» x → IsBlankSide x → IsBlankSide e

-- each side is assigned the value in its place
pub data AreAssigned (E : Env) : List Expr → List Operand → Type 0 where
  assigned_none : AreAssigned E [] []
  assigned_blank : {e : Expr} {es : List Expr} {o : Operand} {os : List Operand} {t : Term} → IsBlankSide e → TypeOfValue E o t → AreAssigned E es os → AreAssigned E (e ∷ es) (o ∷ os)
  assigned_side : {e : Expr} {es : List Expr} {l o : Operand} {os : List Operand} {t : Term} → Has E e l → IsAssigned l t → UsableAs E o t → AreAssigned E es os → AreAssigned E (e ∷ es) (o ∷ os)

-- ---- operators

abbrev pub step_operator : StepOperator → BinaryOp
step_operator step.Increment = binary.Add
step_operator step.Decrement = binary.Subtract

abbrev pub one : Operand
one = constant_of (constant.OfKind untyped.IntKind) (value.Int (pos 1))

-- the result of the operator of an assignment
abbrev pub Operates : Env → AssignOperator → Operand → Operand → Operand → Type 0
Operates E (assign.Sum op) l o r = Computes E (sum_operator op) l o r
Operates E (assign.Product op) l o r = ProductComputes E (product_operator op) l o r

-- ---- short variable declarations

-- the names that are new in the scope get the values' types; the others are its variables, to which the values are assigned
pub data AreDefined (E : Env) (scope : Named Seen) : List Name → List Operand → List (Option Name) → List Seen → Type 0 where
  defined_none : AreDefined E scope [] [] [] []
  defined_blank : {n : Name} {ns : List Name} {o : Operand} {os : List Operand} {t : Term} {xs : List (Option Name)} {ms : List Seen} → is_blank n.text ≡ true → TypeOfValue E o t → AreDefined E scope ns os xs ms → AreDefined E scope (n ∷ ns) (o ∷ os) xs ms
  defined_old : {n : Name} {ns : List Name} {o : Operand} {os : List Operand} {t : Term} {xs : List (Option Name)} {ms : List Seen} → value_at scope n.text ≡ Some (seen.Local t) → UsableAs E o t → AreDefined E scope ns os xs ms → AreDefined E scope (n ∷ ns) (o ∷ os) xs ms
  defined_new : {n : Name} {ns : List Name} {o : Operand} {os : List Operand} {t : Term} {xs : List (Option Name)} {ms : List Seen} → is_blank n.text ≡ false → value_at scope n.text ≡ None → TypeOfValue E o t → AreDefined E scope ns os xs ms
      → AreDefined E scope (n ∷ ns) (o ∷ os) (Some n ∷ xs) (seen.Local t ∷ ms)

-- ---- results

-- each value is usable as the result in its place
pub data AreResults (E : Env) : List Operand → List Term → Type 0 where
  results_none : AreResults E [] []
  results_more : {o : Operand} {os : List Operand} {t : Term} {ts : List Term} → UsableAs E o t → AreResults E os ts → AreResults E (o ∷ os) (t ∷ ts)

-- the expressions give these results: each its own, or one call all of them. That a function whose results have no names is given none isn't looked at
pub data Returns (E : Env) (results : List Term) : List Expr → Type 0 where
  returns_nothing : Returns E results []
  returns_each : {e : Expr} {es : List Expr} {os : List Operand} → HasEach E (e ∷ es) os → AreResults E os results → Returns E results (e ∷ es)
  returns_call : {e : Expr} {ts : List Term} → Has E e (tuple ts) → AreResults E (map plain ts) results → Returns E results (e ∷ [])
