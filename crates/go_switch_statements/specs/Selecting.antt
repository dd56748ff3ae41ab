-- A clause of a `select` statement.
-- Public source: Go specification, "Select statements".
use Rattle.std.specs.Prelude.{◌≡◌, ◌⊎◌, List}
use Rattle.go_rules.specs.Environments.{Env}
use Rattle.go_statement_rules.specs.Functions.{Enclosing, Run, run}
use Rattle.go_statement_rules.specs.Scopes.{Scopes, opened}
use Rattle.go_statement_rules.specs.Statements.{AreTyped, Begins}
use Rattle.go_syntax.specs.declared.statement.LiteralBlock.{LiteralBlock}
use Rattle.go_syntax.specs.declared.statement.SelectCase.{SelectCase, out-SelectCase}
use Rattle.go_untyped_places.specs.Parts.{IsLone}

module _ (E : Env) (blocks : List LiteralBlock) (r : Enclosing) (s : Scopes) where
  -- its communication and its statements are typed
  abbrev pub IsTypedSelectCase : SelectCase → Type 0
  IsTypedSelectCase c = (t : Scopes) × (last : Scopes) × Begins E blocks r s (out-SelectCase c).communication t × AreTyped E blocks r t (out-SelectCase c).body last

  -- a run in it
  abbrev pub InSelectCase : SelectCase → Run → Type 0
  InSelectCase c v = IsLone E blocks r (opened s) (out-SelectCase c).communication v ⊎ ((t : Scopes) × Begins E blocks r s (out-SelectCase c).communication t × (v ≡ run r t (out-SelectCase c).body))
