-- The variables of a spec.
use Rattle.std.specs.Prelude.{◌≡◌, ℕ, List, Option, None, Some, length, map, replicate}
use Rattle.go_model.specs.declared.constants.value.Untyped.{Untyped}
use Rattle.go_model.specs.declared.constants.value.Untyped.TheVariants as untyped
use Rattle.go_model.specs.declared.constants.value.Value.{Value}
use Rattle.go_model.specs.declared.types.package.ConstTerm.TheVariants as constant
use Rattle.go_model.specs.declared.types.package.Entity.{Entity}
use Rattle.go_model.specs.declared.types.package.Entity.TheVariants as entity
use Rattle.go_model.specs.declared.types.term.Term.{Term}
use Rattle.go_rules.specs.Environments.{Env}
use Rattle.go_rules.specs.Expressions.{OfType}
use Rattle.go_rules.specs.Operands.{constant_of, default_type, loose}
use Rattle.go_rules.specs.Usability.{DefaultHolds}
use Rattle.go_rules.specs.declared.operand.Operand.{Operand}
use Rattle.go_syntax.specs.declared.declaration.VarSpec.{VarSpec}
use Rattle.go_syntax.specs.declared.expression.Expr.{Expr}
use Rattle.go_syntax.specs.declared.types.«Type».{«Type» as Typ}
use Rattle.go_typings.specs.Initializers.{Initialize, TypeOfValue, TypesOfValues}

-- a constant of this untyped kind, whose default type can hold it
abbrev pub HasConstantDefault : Env → Operand → Untyped → Type 0
HasConstantDefault E o k = (v : Value) × (o ≡ constant_of (constant.OfKind k) v) × DefaultHolds E k v

-- a value of this untyped kind, whose default type can hold it
pub data HasDefault (E : Env) : Operand → Untyped → Type 0 where
  default_constant : {k : Untyped} {v : Value} → DefaultHolds E k v → HasDefault E (constant_of (constant.OfKind k) v) k
  default_truth : HasDefault E (loose untyped.BoolKind) untyped.BoolKind

-- the default type of the value, which can hold it
abbrev pub IsDefaultType : Env → Operand → Term → Type 0
IsDefaultType E o t = (k : Untyped) × HasDefault E o k × (t ≡ default_type k)

-- the variable that is given the value
abbrev pub IsVariable : Env → Operand → Entity → Type 0
IsVariable E o x = (t : Term) × TypeOfValue E o t × (x ≡ entity.Var t)

-- so many variables of the type that a form stands for
abbrev pub AreTypedVariables : Env → ℕ → Typ → List Entity → Type 0
AreTypedVariables E n t xs = (u : Term) × OfType E t u × (xs ≡ replicate n (entity.Var u))

-- so many variables that are given the values of expressions
abbrev pub AreUntypedVariables : Env → ℕ → List Expr → List Entity → Type 0
AreUntypedVariables E n es xs = (os : List Operand) × (ts : List Term) × Initialize E n es os × TypesOfValues E os ts × (xs ≡ map entity.Var ts)

abbrev pub AreVariablesBy : Env → Option Typ → ℕ → List Expr → List Entity → Type 0
AreVariablesBy E None n es xs = AreUntypedVariables E n es xs
AreVariablesBy E (Some t) n es xs = AreTypedVariables E n t xs

-- the variables of a spec
abbrev pub AreVariablesOf : Env → VarSpec → List Entity → Type 0
AreVariablesOf E s xs = AreVariablesBy E s.type_ (length s.names) s.values xs
