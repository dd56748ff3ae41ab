-- The bodies in a declaration: that of a function or method, and those of the function literals that stand outside of it. When they are typed, and the place of one that isn't.
-- Public source: Go specification, "Function declarations", "Method declarations" and "Function literals". Own: the place.
use Rattle.std.specs.Prelude.{◌≡◌, ℕ, List, [], Option, None, Some}
use Rattle.go_base.specs.Lists.{Each, Has}
use Rattle.go_rules.specs.Environments.{Env}
use Rattle.go_rules.specs.Nodes.{Node, Stands, expression}
use Rattle.go_statement_rules.specs.Bodies.{AreTypedOutside, IsTypedBody}
use Rattle.go_statement_rules.specs.Functions.{EntersBody, EntersFunction, Run, outside}
use Rattle.go_statement_rules.specs.Places.{IsUntypedPlace}
use Rattle.go_syntax.specs.declared.body.BodyRange.{BodyRange}
use Rattle.go_syntax.specs.declared.declaration.Func.{Func}
use Rattle.go_syntax.specs.declared.expression.Expr.{Expr, Expr-F, out-Expr}
use Rattle.go_syntax.specs.declared.statement.LiteralBlock.{LiteralBlock}
use Rattle.go_syntax.specs.declared.types.Signature.{Signature as Sig}
use Rattle.go_typings.specs.DeclarationNodes.{nodes}
use Rattle.go_typings.specs.Declarations.{Form, function, method}
use Rattle.go_typings.specs.Refusals.{offset_of}

-- the function or method that is declared
abbrev pub func_in : Form → Option Func
func_in (function f) = Some f
func_in (method receiver f) = Some f
func_in f = None

-- `E` is what stands around the declaration, and `blocks` has the block of each body and each function literal of its file by its place
module _ (E : Env) (blocks : List LiteralBlock) where
  abbrev pub IsTypedFunc : Option Func → Type 0
  IsTypedFunc None = Unit {0}
  IsTypedFunc (Some f) = IsTypedBody E blocks f

  -- the bodies in the declaration are typed
  pub record AreTypedBodies (f : Form) : Type 0 where
    pub body : IsTypedFunc (func_in f)
    pub literals : Each (AreTypedOutside E blocks) (nodes f)

  -- the statements of a body in the declaration, in their function
  pub data HasBody (f : Form) : Run → Type 0 where
    has_own : {g : Func} {w : Run} → func_in f ≡ Some g → EntersBody E blocks g w → HasBody f w
    has_literal : {at : Node} {x : Expr} {g : Sig} {b : BodyRange} {w : Run} → Has (nodes f) at → Stands at (expression x) → out-Expr x ≡ Expr-F.FuncLit g b → EntersFunction E blocks outside [] g b w → HasBody f w

  -- the place of a body that isn't typed: that of its statements; or the declaration's own, where its bodies aren't typed and no statements of theirs have one, as where the block of a body isn't there
  pub data HasUntyped (f : Form) : ℕ → Type 0 where
    untyped_statement : {place : ℕ} {w : Run} → HasBody f w → IsUntypedPlace E blocks w place → HasUntyped f place
    untyped_itself : (AreTypedBodies f → ⊥) → ((w : Run) (place : ℕ) → HasBody f w → IsUntypedPlace E blocks w place → ⊥) → HasUntyped f (offset_of f)
