-- What two operands that stand together are of, by how each stands.
use Rattle.std.specs.Prelude.{◌≡◌, Option, Some, None}
use Rattle.go_model.specs.declared.constants.value.Untyped.TheVariants as untyped
use Rattle.go_model.specs.declared.constants.value.Untyped.{Untyped}
use Rattle.go_model.specs.declared.types.package.ConstTerm.TheVariants as constant
use Rattle.go_model.specs.declared.types.package.ConstTerm.{ConstTerm}
use Rattle.go_model.specs.declared.types.term.Term.{Term}
use Rattle.go_rules.specs.Environments.{Env}
use Rattle.go_rules.specs.Operands.{IsTyped}
use Rattle.go_rules.specs.Usability.{JoinsTo, Match, UsableAs}
use Rattle.go_rules.specs.declared.operand.Operand.{Operand}
use Rattle.go_usability.specs.Answers.{Gives}

-- the untyped kind of two values that stand together
abbrev pub joined_kind : Untyped → Untyped → Option Untyped
joined_kind untyped.IntKind untyped.IntKind = Some untyped.IntKind
joined_kind untyped.IntKind untyped.RuneKind = Some untyped.RuneKind
joined_kind untyped.RuneKind untyped.IntKind = Some untyped.RuneKind
joined_kind untyped.RuneKind untyped.RuneKind = Some untyped.RuneKind
joined_kind untyped.StrKind untyped.StrKind = Some untyped.StrKind
joined_kind untyped.BoolKind untyped.BoolKind = Some untyped.BoolKind
joined_kind j k = None

-- two values of types
abbrev pub OfTypes : Term → Term → Option ConstTerm → Type 0
OfTypes t u (Some c) = (c ≡ constant.OfTerm t) × (t ≡ u)
OfTypes t u None = t ≡ u → ⊥

-- a value of an untyped kind, and one of a type
abbrev pub OfUse : Env → Operand → Term → Option ConstTerm → Type 0
OfUse E o t (Some c) = (c ≡ constant.OfTerm t) × UsableAs E o t
OfUse E o t None = UsableAs E o t → ⊥

-- two values of untyped kinds
abbrev pub OfKinds : Untyped → Untyped → Option ConstTerm → Type 0
OfKinds j k (Some c) = (l : Untyped) × (c ≡ constant.OfKind l) × JoinsTo j k l
OfKinds j k None = (l : Untyped) → JoinsTo j k l → ⊥

-- a value of a type, and an operand
abbrev pub BesideType : Env → Term → Operand → Option ConstTerm → Type 0
BesideType E t right c = (left : Operand) → IsTyped left t → Gives (Match E left right) c
