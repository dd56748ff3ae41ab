-- Constants whose values are of their types or untyped kinds.
-- Public source: Go specification, "Constants" and "Representability".
use Rattle.std.specs.Prelude.{◌≡◌, ℕ, true, List, Some}
use Rattle.go_model.specs.constants.Constants.{is_of}
use Rattle.go_model.specs.declared.constants.value.Kind.{Kind}
use Rattle.go_model.specs.declared.constants.value.Value.{Value}
use Rattle.go_model.specs.declared.types.package.ConstTerm.{ConstTerm}
use Rattle.go_model.specs.declared.types.package.Entity.TheVariants as entity
use Rattle.go_rules.specs.Environments.{Env}
use Rattle.go_rules.specs.Operands.{HasKind}
use Rattle.go_rules.specs.declared.operand.Shape.{Shape}
use Rattle.go_rules.specs.declared.operand.Shape.TheVariants as shape
use Rattle.go_rules.specs.declared.seen.Seen.TheVariants as seen

-- the type or untyped kind has a kind, and the value is of it
abbrev pub IsKept : Env → ConstTerm → Value → Type 0
IsKept E c v = (k : Kind) × HasKind E c k × (is_of v k E.bits ≡ true)

-- the value of a constant is of its type or untyped kind
abbrev pub ShapeKept : Env → Shape → Type 0
ShapeKept E (shape.Fixed c v) = IsKept E c v
ShapeKept E s = Unit {0}

-- so are the values of the constants that names mean, and of those of imported packages
pub record ConstantsKept (E : Env) : Type 0 where
  pub local : (name : List ℕ) (c : ConstTerm) (v : Value) → E.meaning name ≡ Some (seen.LocalConst c v) → IsKept E c v
  pub own : (name : List ℕ) (c : ConstTerm) (v : Value) → E.meaning name ≡ Some (seen.Object (entity.Const c v)) → IsKept E c v
  pub imported : (path name : List ℕ) (c : ConstTerm) (v : Value) → E.object path name ≡ Some (entity.Const c v) → IsKept E c v
