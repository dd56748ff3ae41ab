-- What is found in a run of statements, as in a part with that run inside.
use Rattle.std.proofs.Common.{◌≡◌, ℕ, List, [], ◌∷◌, Option, None, Some}
use Rattle.go_judged.specs.Judging.{Finds, Judges, JudgesTo, found}
use Rattle.go_rules.specs.Environments.{Env}
use Rattle.go_local_scopes.specs.go_statement_rules.Bodies.{IsTypedRun}
use Rattle.go_local_scopes.specs.go_statement_rules.Functions.{Enclosing, Run, run}
use Rattle.go_local_scopes.specs.go_statement_rules.Scopes.{Scopes}
use Rattle.go_local_scopes.specs.go_statement_rules.Statements.{AreTyped, Leaves, kind_of, typed_more, typed_none}
use Rattle.go_local_scopes.proofs.go_statement_rules_proofs.OnePlace.{typed_no_place}
use Rattle.go_syntax.specs.declared.statement.LiteralBlock.{LiteralBlock}
use Rattle.go_syntax.specs.declared.statement.Stmt.{Stmt}
use Rattle.go_untyped_places.proofs.Surveying.{one_typed, one_untyped}

module _ (E : Env) (blocks : List LiteralBlock) (r : Enclosing) (s : Scopes) where
  abbrev pub OneRun : List Stmt → Run → Type 0
  OneRun ss v = v ≡ run r s ss

  pub found_run : (ss : List Stmt) (t : Scopes) (p : Option ℕ) → Finds E blocks r s ss t p → JudgesTo E blocks (AreTyped E blocks r s ss) t (OneRun ss) (found p)
  found_run ss t None f = (f, one_typed E blocks (run r s ss) (t, f))
  found_run ss t (Some p) f = ((λ u a. typed_no_place E blocks (run r s ss) p (u, a) f), one_untyped E blocks (run r s ss) p f)

  -- where it doesn't matter which scopes are left
  pub found_typed : (ss : List Stmt) (t : Scopes) (p : Option ℕ) → Finds E blocks r s ss t p → Judges E blocks (IsTypedRun E blocks (run r s ss)) (OneRun ss) (found p)
  found_typed ss t None f = ((t, f), one_typed E blocks (run r s ss) (t, f))
  found_typed ss t (Some p) f = ((λ a. typed_no_place E blocks (run r s ss) p a f), one_untyped E blocks (run r s ss) p f)

  -- one statement alone
  pub one_leaves : (x : Stmt) (t : Scopes) → AreTyped E blocks r s (x ∷ []) t → Leaves E blocks r s (kind_of x) t
  one_leaves x t (typed_more l typed_none) = l

  pub leaves_one : (x : Stmt) (t : Scopes) → Leaves E blocks r s (kind_of x) t → AreTyped E blocks r s (x ∷ []) t
  leaves_one x t l = typed_more l typed_none
