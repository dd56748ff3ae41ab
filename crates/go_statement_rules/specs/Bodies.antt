-- The bodies of functions and methods that are declared, and the function literals that stand outside of bodies, as in the value of a variable of the package.
-- Public source: Go specification, "Function declarations", "Method declarations" and "Function literals".
use Rattle.std.specs.Prelude.{◌≡◌, List, [], None}
use Rattle.go_typings.specs.go_rules.Environments.{Env}
use Rattle.go_typings.specs.go_rules.Nodes.{Node}
use Rattle.go_statement_rules.specs.Functions.{EntersBody, Run, outside}
use Rattle.go_statement_rules.specs.Scopes.{Scopes}
use Rattle.go_statement_rules.specs.Statements.{AreTyped, LiteralsAreTyped}
use Rattle.go_syntax.specs.declared.declaration.Func.{Func}
use Rattle.go_syntax.specs.declared.statement.LiteralBlock.{LiteralBlock}

-- the statements of the run are typed
abbrev pub IsTypedRun : Env → List LiteralBlock → Run → Type 0
IsTypedRun E blocks w = (t : Scopes) × AreTyped E blocks w.function w.scopes w.statements t

-- the body is typed, where there is one. `E` is what stands around the declaration, and `blocks` has the block of each body and each function literal by its place
pub data IsTypedBody (E : Env) (blocks : List LiteralBlock) (f : Func) : Type 0 where
  no_body : f.body ≡ None → IsTypedBody E blocks f
  typed_body : {w : Run} → EntersBody E blocks f w → IsTypedRun E blocks w → IsTypedBody E blocks f

-- the blocks of the function literals in a tree outside of bodies are typed
abbrev pub AreTypedOutside : Env → List LiteralBlock → Node → Type 0
AreTypedOutside E blocks at = LiteralsAreTyped E blocks outside [] at
