-- The place that is told of statements that aren't typed: that of the first statement that fails and holds none that does.
-- Own: the place. Public source of what it means to be typed: Go specification, "Statements" and "Blocks".
use Rattle.std.specs.Prelude.{◌≡◌, ◌≤◌, ℕ, List}
use Rattle.go_typings.specs.go_rules.Environments.{Env}
use Rattle.go_statement_rules.specs.Contexts.{InContext, Inside}
use Rattle.go_statement_rules.specs.Functions.{Run, Spot}
use Rattle.go_statement_rules.specs.Scopes.{Scopes}
use Rattle.go_statement_rules.specs.Statements.{Leaves, kind_of}
use Rattle.go_syntax.specs.declared.statement.LiteralBlock.{LiteralBlock}
use Rattle.go_syntax.specs.declared.statement.Stmt.{out-Stmt}

module _ (E : Env) (blocks : List LiteralBlock) where
  -- the statement stands in context, and isn't typed there
  pub record Fails (w : Run) (c : Spot) : Type 0 where
    pub stands : InContext E blocks w c
    pub untyped : (t : Scopes) → Leaves E blocks c.function c.scopes (kind_of c.statement) t → ⊥

  -- it fails, and holds none that fails
  pub record FailsItself (w : Run) (c : Spot) : Type 0 where
    pub fails : Fails w c
    pub holds_none : (v : Run) (d : Spot) → Inside E blocks c.function c.scopes (kind_of c.statement) v → Fails v d → ⊥

  -- the least start of one that does
  pub record IsUntypedPlace (w : Run) (place : ℕ) : Type 0 where
    pub spot : Spot
    pub fails : FailsItself w spot
    pub starts : (out-Stmt spot.statement).start ≡ place
    pub least : (c : Spot) → FailsItself w c → place ≤ (out-Stmt c.statement).start
