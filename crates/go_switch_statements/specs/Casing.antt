-- A clause of an expression switch, and its tag.
-- Public source: Go specification, "Expression switches".
use Rattle.std.specs.Prelude.{◌≡◌, ◌⊎◌, List, map, Option, None, Some}
use Rattle.go_base.specs.Lists.{Each, Has as In}
use Rattle.go_model.specs.declared.types.term.Term.{Term}
use Rattle.go_rules.specs.Environments.{Env}
use Rattle.go_rules.specs.Nodes.{expression}
use Rattle.go_statement_rules.specs.Clauses.{IsCase, IsTag}
use Rattle.go_statement_rules.specs.Functions.{Enclosing, Run}
use Rattle.go_statement_rules.specs.Scopes.{Scopes, within}
use Rattle.go_statement_rules.specs.Statements.{AreCases, AreMet, IsTypedBlock, tag_nodes}
use Rattle.go_syntax.specs.declared.expression.Expr.{Expr}
use Rattle.go_syntax.specs.declared.statement.Case.{Case, out-Case}
use Rattle.go_syntax.specs.declared.statement.LiteralBlock.{LiteralBlock}
use Rattle.go_untyped_places.specs.LiteralRuns.{IsLiteralRun}
use Rattle.go_untyped_places.specs.Parts.{InCase}

module _ (E : Env) (blocks : List LiteralBlock) (r : Enclosing) (s : Scopes) where
  -- the values of a clause can be compared with those of the type
  abbrev pub AreValues : Term → Option (List Expr) → Type 0
  AreValues u None = Unit {0}
  AreValues u (Some es) = Each (IsCase (within E s) u) es × AreMet E blocks r (within E s) s (map expression es)

  -- a function literal in them
  abbrev pub InValues : Option (List Expr) → Run → Type 0
  InValues xs v = (es : List Expr) × (xs ≡ Some es) × IsLiteralRun E blocks r s (map expression es) v

  abbrev pub IsTypedCase : Term → Case → Type 0
  IsTypedCase u c = AreValues u (out-Case c).values × IsTypedBlock E blocks r s (out-Case c).body

  -- the tag is typed, and its values are of this type
  abbrev pub Tags : Option Expr → Term → Type 0
  Tags e u = IsTag (within E s) e u × AreMet E blocks r (within E s) s (tag_nodes e)

  -- the tag and the clauses are typed
  abbrev pub IsTypedTagged : Option Expr → List Case → Type 0
  IsTypedTagged e cs = (u : Term) × Tags e u × AreCases E blocks r s u cs

  -- a run in the tag or in a clause
  abbrev pub InTagged : Option Expr → List Case → Run → Type 0
  InTagged e cs v = IsLiteralRun E blocks r s (tag_nodes e) v ⊎ ((u : Term) × Tags e u × (c : Case) × In cs c × InCase E blocks r s c v)
