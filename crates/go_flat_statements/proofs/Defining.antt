-- What is found in a short variable declaration.
use Rattle.std.proofs.Common.{◌≡◌, Bool, true, false, ◌&&◌, List, [], ◌∷◌, map, Result, Err, ap}
use Rattle.go_assignments.specs.Definitions.{Defines}
use Rattle.go_flat_statements.specs.Judging.{JudgesKind}
use Rattle.go_flat_statements.proofs.MetTrees.{met_own, met_parts, met_whole, own_met}
use Rattle.go_judged.specs.Judging.{Judges, with_test}
use Rattle.go_judged.specs.declared.judged.Judged.{Judged}
use Rattle.go_local_scopes.specs.States.{Reaches}
use Rattle.go_rules.specs.Environments.{Env}
use Rattle.go_rules.specs.Nodes.{expression}
use Rattle.go_selectors.specs.Answers.{Decides}
use Rattle.go_statement_rules.specs.Functions.{Enclosing}
use Rattle.go_statement_rules.specs.Scopes.{Scopes, within}
use Rattle.go_statement_rules.specs.Statements.{KindLayer, Leaves, leaves_definition}
use Rattle.go_syntax.specs.declared.expression.Expr.{Expr}
use Rattle.go_syntax.specs.declared.name.Name.{Name}
use Rattle.go_syntax.specs.declared.statement.LiteralBlock.{LiteralBlock}
use Rattle.go_syntax.specs.declared.statement.StmtKind.{StmtKind-F}
use Rattle.go_type_terms.specs.declared.error.ExprError.{ExprError}
use Rattle.go_untyped_places.specs.LiteralRuns.{IsLiteralRun}
use Rattle.go_walks.specs.Literals.{LiteralsTyped}

pub err_same : {x y : ExprError} → x ≡ y → ◌≡◌ {A = Result (Unit {0}) ExprError} (Err x) (Err y)
err_same e = ap Err e

module _ (E : Env) (blocks : List LiteralBlock) (r : Enclosing) (ns : List Name) (xs : List Expr) where
  abbrev Kind : KindLayer
  Kind = StmtKind-F.Define ns xs

  abbrev Own : Scopes → Type 0
  Own s = LiteralsTyped E blocks r s (map expression xs)

  to_definition : (s t : Scopes) → Own s → Defines (within E s) s ns xs t → Leaves E blocks r s Kind t
  to_definition [] t l d = absurd d
  to_definition (scope ∷ outer) t l (os, new, ms, a, i, d, n, m, c) = leaves_definition a i d n (met_whole E blocks r (within E (scope ∷ outer)) (scope ∷ outer) (map expression xs) (met_own (within E (scope ∷ outer)) xs m) l) c

  of_definition : (s t : Scopes) → Leaves E blocks r s Kind t → Own s × Defines (within E s) s ns xs t
  of_definition s t (leaves_definition {scope = scope} {outer = outer} {os = os} {new = new} {ms = ms} a i d n m c) =
      let parts = met_parts E blocks r (within E (scope ∷ outer)) (scope ∷ outer) (map expression xs) m in
      (parts.1, (os, new, ms, a, i, d, n, own_met (within E (scope ∷ outer)) xs parts.0, c))

  module _ (s : Scopes) (j : Judged) (k : Judges E blocks (Own s) (IsLiteralRun E blocks r s (map expression xs)) j) where
    -- where it defines names, but for the literals
    pub defined_judged : (t : Scopes) → Defines (within E s) s ns xs t → JudgesKind E blocks r s Kind t j
    defined_judged t d = (by_literals j.typed k.0, k.1)
      where
        by_literals : (b : Bool) → Decides b (Own s) → Reaches b (Leaves E blocks r s Kind) t
        by_literals true l = to_definition s t l d
        by_literals false n = λ u l. n (of_definition s u l).0

    pub undefined_judged : ((t : Scopes) → Defines (within E s) s ns xs t → ⊥) → (t : Scopes) → JudgesKind E blocks r s Kind t (with_test j false)
    undefined_judged none t = (by_test j.typed, k.1)
      where
        untyped : (u : Scopes) → Leaves E blocks r s Kind u → ⊥
        untyped u l = none u (of_definition s u l).1

        by_test : (a : Bool) → Reaches (a && false) (Leaves E blocks r s Kind) t
        by_test true = untyped
        by_test false = untyped
