use Rattle.go_flat_statements.proofs.FlatKinds.{kind_same}
use Rattle.go_judged.specs.Judging.{Judges}
use Rattle.go_judged.specs.Judging.{both}
use Rattle.go_local_scopes.proofs.Standing.{same_at}
use Rattle.go_nested_statements.proofs.Looped.{while_failed, while_followed}
use Rattle.go_rules.proofs.NamedEntries.{item_copied}
use Rattle.go_statement_rules.specs.Statements.{IsCondition, tag_nodes}
use Rattle.go_syntax.specs.declared.expression.Expr.{Expr}
use Rattle.go_syntax.specs.declared.statement.StmtKind.{StmtKind-F}
use Rattle.go_untyped_places.specs.LiteralRuns.{IsLiteralRun}
use Rattle.go_flat_statements.specs.go_walks.Below.{blocks_of, enclosing_of}
use Rattle.std.proofs.Common.{Option, subst, ◌∙◌}
use Rattle.go_nested_statements.proofs.loops.repeated.Goals as goal

pub returns-then-not-typed-clause-judged : goal.returns-then-not-typed-clause-judged
returns-then-not-typed-clause-judged g c = λ E s at.
    let f = c.args.walk.now.frame.now in
    let B = blocks_of f in
    let r = enclosing_of f in
    let h = c.in_ok-head.head in
    while_failed E B r s c.args.condition.now c.args.body.now h c.if-not-typed.true
    (subst (λ (e : Option Expr). Judges E B (IsCondition E B r s e) (IsLiteralRun E B r s (tag_nodes e)) h) (item_copied c.as_ref.result ∙ c.as_ref.ensures.value) (c.in_ok-head.ensures.judged E s at))

pub returns-clause-same : goal.returns-clause-same
returns-clause-same g c = c.in_ok-body.ensures.same ∙ c.in_ok-head.ensures.same

pub returns-clause-judged : goal.returns-clause-judged
returns-clause-judged g c = λ E s at.
    let f = c.args.walk.now.frame.now in
    let B = blocks_of f in
    let r = enclosing_of f in
    let h = c.in_ok-head.head in
    let b = c.in_ok-body.body in
    let there = same_at E s c.args.env.now c.tested_where.new.env c.in_ok-head.ensures.same at in
    kind_same E B r s (StmtKind-F.While c.args.condition.now c.args.body.now) s (both h b) c.both.result c.both.ensures
    (while_followed E B r s c.args.condition.now c.args.body.now h b c.if-not-typed.false
    (subst (λ (e : Option Expr). Judges E B (IsCondition E B r s e) (IsLiteralRun E B r s (tag_nodes e)) h) (item_copied c.as_ref.result ∙ c.as_ref.ensures.value) (c.in_ok-head.ensures.judged E s at))
    (c.in_ok-body.ensures.judged E s there))
