-- Operators before an operand.
-- Public source: Go specification, "Operators", "Arithmetic operators", "Address operators", "Receive operator" and
-- "Pointer types".
use Rattle.std.specs.Prelude.{◌≡◌, Bool, true, false, Some}
use Rattle.go_base.specs.declared.operator.PrefixOperator.{PrefixOperator}
use Rattle.go_base.specs.declared.operator.PrefixOperator.TheVariants as prefix
use Rattle.go_model.specs.constants.Classes.{class_of}
use Rattle.go_model.specs.constants.Constants.{unary_value}
use Rattle.go_model.specs.constants.Operators.{unary_applies}
use Rattle.go_model.specs.declared.constants.value.Kind.{Kind}
use Rattle.go_model.specs.declared.constants.value.UnaryOp.{UnaryOp}
use Rattle.go_model.specs.declared.constants.value.UnaryOp.TheVariants as unary
use Rattle.go_model.specs.declared.constants.value.Value.{Value}
use Rattle.go_model.specs.declared.types.package.ConstTerm.{ConstTerm}
use Rattle.go_model.specs.declared.types.term.Direction.{Direction}
use Rattle.go_model.specs.declared.types.term.Term.{Term, Term-F}
use Rattle.go_model.specs.types.Terms.{pointer_to}
use Rattle.go_model.specs.types.Underlying.{under}
use Rattle.go_rules.specs.Environments.{Env}
use Rattle.go_rules.specs.Expressions.{is_constant, receives}
use Rattle.go_rules.specs.Operands.{IsOf, IsTyped, HasKind, computed, constant_of, plain, type_name, variable}
use Rattle.go_rules.specs.declared.operand.Operand.{Operand}

-- the result of `+`, `-`, `^` or `!` before an operand
pub data Changes (E : Env) (op : UnaryOp) : Operand → Operand → Type 0 where
  changes_constant : {c : ConstTerm} {v w : Value} {k : Kind} → HasKind E c k → unary_value op v k E.bits ≡ Some w → Changes E op (constant_of c v) (constant_of c w)
  changes_value : {o : Operand} {c : ConstTerm} {k : Kind} → is_constant o.mode ≡ false → IsOf o c → HasKind E c k → unary_applies op (class_of k) ≡ true → Changes E op o (computed c)

-- `*` before a pointer, or before a type
pub data Dereferences (E : Env) : Operand → Operand → Type 0 where
  dereferences_value : {o : Operand} {t u : Term} → IsTyped o t → under E.table t ≡ Term-F.Pointer u → Dereferences E o (variable u)
  dereferences_type : {t : Term} → Dereferences E (type_name t) (type_name (pointer_to t))

-- `&` before a variable, or before a composite literal
pub data Addresses : (composite : Bool) → Operand → Operand → Type 0 where
  addresses_variable : {composite : Bool} {t : Term} → Addresses composite (variable t) (plain (pointer_to t))
  addresses_literal : {t : Term} → Addresses true (plain t) (plain (pointer_to t))

-- `<-` before a channel
pub data Receives (E : Env) : Operand → Operand → Type 0 where
  receives_element : {o : Operand} {t u : Term} {d : Direction} → IsTyped o t → under E.table t ≡ Term-F.Chan d u → receives d ≡ true → Receives E o (plain u)

-- what an operator makes of the operand after it, which is a composite literal or not
abbrev pub Prefixes : Env → PrefixOperator → (composite : Bool) → Operand → Operand → Type 0
Prefixes E prefix.Plus composite o r = Changes E unary.Plus o r
Prefixes E prefix.Minus composite o r = Changes E unary.Minus o r
Prefixes E prefix.Not composite o r = Changes E unary.Not o r
Prefixes E prefix.Xor composite o r = Changes E unary.Xor o r
Prefixes E prefix.Dereference composite o r = Dereferences E o r
Prefixes E prefix.Address composite o r = Addresses composite o r
Prefixes E prefix.Receive composite o r = Receives E o r
