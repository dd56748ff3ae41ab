use Rattle.go_clauses.specs.Clauses.{IsConditionOf}
use Rattle.go_judged.proofs.Joining.{judged_same}
use Rattle.go_judged.specs.Judging.{with_test}
use Rattle.go_local_scopes.proofs.Standing.{decides_at, same_at}
use Rattle.go_nested_statements.proofs.Headed.{condition_judged}
use Rattle.go_nodes.specs.Trees.{nodes_in}
use Rattle.go_rules.specs.Nodes.{expression}
use Rattle.go_statement_rules.specs.Statements.{IsCondition, tag_nodes}
use Rattle.go_untyped_places.specs.LiteralRuns.{IsLiteralRun}
use Rattle.go_flat_statements.proofs.go_walks_proofs.Gathered.{literals_as}
use Rattle.go_flat_statements.specs.go_walks.Below.{blocks_of, enclosing_of}
use Rattle.std.proofs.Common.{◌∷◌, [], Some}
use Rattle.go_nested_statements.proofs.conditions.condition_here.Goals as goal

pub returns-clause-judged : goal.returns-clause-judged
returns-clause-judged g c = λ E s at.
    let f = c.args.walk.now.frame.now in
    let B = blocks_of f in
    let r = enclosing_of f in
    let there = same_at E s c.args.env.now c.literals.new.env c.in_ok-literals.ensures.same at in
    let j = c.in_ok-literals.literals in
    let e = c.args.expr.now in
    let b = c.in_ok-holds.holds in
    judged_same E B (IsCondition E B r s (Some e)) (IsLiteralRun E B r s (tag_nodes (Some e))) (with_test j b) c.with_test.result c.with_test.ensures
    (condition_judged E B r s e j b (literals_as E B r s (nodes_in c.in_ok-trees.trees) (expression e ∷ []) c.in_ok-trees.ensures j (c.in_ok-literals.ensures.judged E s at)) (decides_at E s c.literals.new.env there b (λ F. IsConditionOf F e) c.in_ok-holds.ensures))
