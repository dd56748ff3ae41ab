-- The constants of a spec, one by one.
use Rattle.std.specs.Prelude.{◌≡◌, false, List, Option, None, Some, length}
use Rattle.go_model.specs.constants.Classes.{class_of_basic, is_inexact}
use Rattle.go_model.specs.declared.constants.value.Basic.{Basic}
use Rattle.go_model.specs.declared.constants.value.Value.{Value}
use Rattle.go_model.specs.declared.types.package.ConstTerm.{ConstTerm}
use Rattle.go_model.specs.declared.types.package.ConstTerm.TheVariants as constant
use Rattle.go_model.specs.declared.types.package.Entity.{Entity}
use Rattle.go_model.specs.declared.types.package.Entity.TheVariants as entity
use Rattle.go_model.specs.declared.types.term.Term.{Term, Term-F}
use Rattle.go_model.specs.types.Underlying.{under}
use Rattle.go_rules.specs.Environments.{Env}
use Rattle.go_rules.specs.Expressions.{Has, OfType}
use Rattle.go_rules.specs.Operands.{constant_of}
use Rattle.go_rules.specs.Usability.{UsableAs}
use Rattle.go_rules.specs.declared.operand.Operand.{Operand}
use Rattle.go_syntax.specs.declared.declaration.ConstSpec.{ConstSpec}
use Rattle.go_syntax.specs.declared.expression.Expr.{Expr}
use Rattle.go_syntax.specs.declared.types.«Type».{«Type» as Typ}
use Rattle.go_typings.specs.DeclarationRules.{AreConstants}

-- the constant that the operand is, without a type
abbrev pub IsOwnConstant : Operand → Entity → Type 0
IsOwnConstant o x = (c : ConstTerm) × (v : Value) × (o ≡ constant_of c v) × (x ≡ entity.Const c v)

-- the constant of the type that has the operand's value
abbrev pub IsConstantLike : Term → Operand → Entity → Type 0
IsConstantLike u o x = (c : ConstTerm) × (v : Value) × (o ≡ constant_of c v) × (x ≡ entity.Const (constant.OfTerm u) v)

-- the same, where the operand can be used as a value of the type
abbrev pub IsTypedConstant : Env → Term → Operand → Entity → Type 0
IsTypedConstant E u o x = UsableAs E o u × IsConstantLike u o x

-- the constant whose value the expression is, of the type that is given, where there is one
abbrev pub IsConstant : Env → Option Term → Expr → Entity → Type 0
IsConstant E None e x = (o : Operand) × Has E e o × IsOwnConstant o x
IsConstant E (Some u) e x = (o : Operand) × Has E e o × IsTypedConstant E u o x

-- constants can be of the type
abbrev pub HoldsConstants : Env → Term → Type 0
HoldsConstants E u = (b : Basic) × (under E.table u ≡ Term-F.Plain b) × (is_inexact (class_of_basic b) ≡ false)

-- the type of constants that a type form stands for
abbrev pub IsTypeOfConstants : Env → Typ → Term → Type 0
IsTypeOfConstants E t u = OfType E t u × HoldsConstants E u

-- the constants of a spec
abbrev pub AreConstantsOf : Env → ConstSpec → List Entity → Type 0
AreConstantsOf E s xs = AreConstants E s.type_ s.values xs × (length s.names ≡ length s.values)
