use Rattle.go_base.specs.Keys.{item_of}
use Rattle.go_judged.proofs.Joining.{judged_same}
use Rattle.go_judged.specs.Judging.{Judges, tested}
use Rattle.go_judged.specs.declared.judged.Judged.{Judged}
use Rattle.go_local_scopes.specs.States.{IsAt}
use Rattle.go_nested_statements.proofs.Headed.{no_condition_judged}
use Rattle.go_rules.specs.Environments.{Env}
use Rattle.go_statement_rules.specs.Scopes.{Scopes}
use Rattle.go_statement_rules.specs.Statements.{IsCondition, tag_nodes}
use Rattle.go_syntax.specs.declared.expression.Expr.{Expr}
use Rattle.go_untyped_places.specs.LiteralRuns.{IsLiteralRun}
use Rattle.go_flat_statements.specs.go_walks.Below.{blocks_of, enclosing_of}
use Rattle.std.proofs.Common.{None, Option, subst, sym}
use Rattle.std.specs.Prelude.{true, IfOk}
use denote.Ref.{Bor}
use Rattle.go_nested_statements.proofs.conditions.tested_where.Goals as goal

pub returns-in-Some-clause-judged : goal.returns-in-Some-clause-judged
returns-in-Some-clause-judged g c =
    let f = c.args.walk.now.frame.now in
    let B = blocks_of f in
    let r = enclosing_of f in
    subst (λ (x : Option (Bor Expr)). IfOk c.condition_here.result (λ (j : Judged). (E : Env) (s : Scopes) → IsAt E s c.args.env.now → Judges E B (IsCondition E B r s (item_of x)) (IsLiteralRun E B r s (tag_nodes (item_of x))) j)) (sym c.in-Some.is)
    c.condition_here.ensures.judged

pub returns-in-None-clause-judged : goal.returns-in-None-clause-judged
returns-in-None-clause-judged g c = λ E s at.
    let f = c.args.walk.now.frame.now in
    let B = blocks_of f in
    let r = enclosing_of f in
    subst (λ (x : Option (Bor Expr)). Judges E B (IsCondition E B r s (item_of x)) (IsLiteralRun E B r s (tag_nodes (item_of x))) c.tested.result) (sym c.in-None.is)
    (judged_same E B (IsCondition E B r s None) (IsLiteralRun E B r s (tag_nodes None)) (tested true) c.tested.result c.tested.ensures (no_condition_judged E B r s))
