-- What the clauses of switches list, and what ranges give.
-- Public source: Go specification, "Expression switches", "Type switches" and "For statements with range clause".
use Rattle.std.specs.Prelude.{◌≡◌, ℕ, Bool, true, List, [], ◌∷◌, Option, None, Some}
use Rattle.go_base.specs.declared.operator.CompareOp.TheVariants as compare
use Rattle.go_model.specs.declared.constants.value.Basic.TheVariants as basic
use Rattle.go_model.specs.declared.types.term.Direction.{Direction}
use Rattle.go_model.specs.declared.types.term.Term.{Term, Term-F}
use Rattle.go_model.specs.types.Underlying.{under}
use Rattle.go_typings.specs.go_rules.Asks.{IsType}
use Rattle.go_typings.specs.go_rules.Environments.{Env}
use Rattle.go_typings.specs.go_rules.Expressions.{Has, IsArray, IsComparison, IsString, MayHold, receives}
use Rattle.go_typings.specs.go_rules.Operands.{IsTyped, basic_term, plain}
use Rattle.go_typings.specs.go_rules.declared.operand.Operand.{Operand}
use Rattle.go_typings.specs.go_rules.declared.predeclared.Predeclared.TheVariants as p
use Rattle.go_typings.specs.go_rules.declared.seen.Seen.TheVariants as seen
use Rattle.go_syntax.specs.declared.expression.Expr.{Expr}
use Rattle.go_syntax.specs.declared.name.QualifiedName.{QualifiedName}
use Rattle.go_syntax.specs.declared.types.«Type».{«Type» as Typ, «Type-F» as Typ-F, «out-Type» as out-Typ}
use Rattle.go_typings.specs.Initializers.{TypeOfValue}

-- ---- expression switches

-- the type with whose values those of the clauses are compared: that of the tag, or bool where there is none
pub data IsTag (E : Env) : Option Expr → Term → Type 0 where
  no_tag : IsTag E None (basic_term basic.Bool)
  tag : {e : Expr} {o : Operand} {t : Term} → Has E e o → TypeOfValue E o t → IsTag E (Some e) t

-- the value can be compared with those of the type
abbrev pub IsCase : Env → Term → Expr → Type 0
IsCase E t e = (o : Operand) × (r : Operand) × Has E e o × IsComparison E compare.Equal (plain t) o r

-- ---- type switches

-- the predeclared nil, parentheses aside
pub data IsNil (E : Env) : Typ → Type 0 where
  is_nil : {t : Typ} {q : QualifiedName} → out-Typ t ≡ Typ-F.«Type::Named» q → q.qualifier ≡ None → E.meaning q.name.text ≡ Some (seen.Universe p.Nil) → IsNil E t
  nil_in_parentheses : {t u : Typ} → out-Typ t ≡ Typ-F.«Type::Paren» u → IsNil E u → IsNil E t

-- what a clause lists: nil, or a type that a value of the interface type may be of
pub data Lists (E : Env) (interface : Term) : Typ → Option Term → Type 0 where
  lists_nil : {t : Typ} → IsNil E t → Lists E interface t None
  lists_type : {t : Typ} {u : Term} → IsType E t u → MayHold E interface u → Lists E interface t (Some u)

pub data ListsAll (E : Env) (interface : Term) : List Typ → List (Option Term) → Type 0 where
  lists_none : ListsAll E interface [] []
  lists_more : {t : Typ} {ts : List Typ} {x : Option Term} {xs : List (Option Term)} → Lists E interface t x → ListsAll E interface ts xs → ListsAll E interface (t ∷ ts) (x ∷ xs)

-- the type of the name in a clause: the one type that the clause lists, else that of the operand
abbrev pub bound_type : Term → List (Option Term) → Term
bound_type t (Some u ∷ []) = u
bound_type t xs = t

-- ---- ranges

-- the types of what a range gives: of the key and of the element, or of the element of a channel alone
pub data Ranges (E : Env) : Operand → List Term → Type 0 where
  ranges_array : {o : Operand} {t e : Term} {pointer : Bool} {n : ℕ} → IsTyped o t → IsArray E t pointer n e → Ranges E o (basic_term basic.Int ∷ e ∷ [])
  ranges_slice : {o : Operand} {t e : Term} → IsTyped o t → under E.table t ≡ Term-F.Slice e → Ranges E o (basic_term basic.Int ∷ e ∷ [])
  ranges_string : {o : Operand} {n : Option ℕ} → IsString E o n → Ranges E o (basic_term basic.Int ∷ basic_term basic.Int32 ∷ [])
  ranges_map : {o : Operand} {t k e : Term} → IsTyped o t → under E.table t ≡ Term-F.Map k e → Ranges E o (k ∷ e ∷ [])
  ranges_channel : {o : Operand} {t e : Term} {d : Direction} → IsTyped o t → under E.table t ≡ Term-F.Chan d e → receives d ≡ true → Ranges E o (e ∷ [])
