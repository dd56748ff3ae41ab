use Rattle.go_flat_statements.proofs.FlatKinds.{kind_same}
use Rattle.go_judged.specs.declared.judged.Judged.{Judged}
use Rattle.go_judged.specs.Judging.{both, with_test}
use Rattle.go_local_scopes.proofs.Standing.{decides_at, same_at}
use Rattle.go_nested_statements.proofs.Ranged.{assigned_failed, assigned_followed, assigned_head}
use Rattle.go_nested_statements.specs.Ranging.{AssignsRange}
use Rattle.go_nodes.specs.Trees.{nodes_in}
use Rattle.go_rules.specs.Nodes.{expression}
use Rattle.go_syntax.specs.declared.statement.StmtKind.{StmtKind-F}
use Rattle.go_flat_statements.proofs.go_walks_proofs.Gathered.{literals_as}
use Rattle.go_flat_statements.specs.go_walks.Below.{blocks_of, enclosing_of}
use Rattle.std.proofs.Common.{◌∷◌, ◌∙◌, ap, map, sym}
use Rattle.go_nested_statements.proofs.ranges.assigned.Goals as goal

pub returns-then-not-typed-clause-same : goal.returns-then-not-typed-clause-same
returns-then-not-typed-clause-same g c = c.in_ok-literals.ensures.same

pub returns-then-not-typed-clause-judged : goal.returns-then-not-typed-clause-judged
returns-then-not-typed-clause-judged g c = λ E s at.
    let f = c.args.walk.now.frame.now in
    let B = blocks_of f in
    let r = enclosing_of f in
    let there = same_at E s c.args.env.now c.literals.new.env c.in_ok-literals.ensures.same at in
    let j = c.in_ok-literals.literals in
    let b = c.in_ok-given.given in
    kind_same E B r s (StmtKind-F.RangeAssign c.args.sides.now c.args.expr.now c.args.body.now) s (with_test j b) c.with_test-head.result c.with_test-head.ensures
    (assigned_failed E B r s c.args.expr.now c.args.sides.now c.args.body.now (with_test j b) (sym (ap (λ (x : Judged). x.typed) c.with_test-head.ensures) ∙ c.if-not-typed.true)
    (assigned_head E B r s c.args.expr.now c.args.sides.now c.args.body.now j b (literals_as E B r s (nodes_in c.in_ok-trees.trees) (expression c.args.expr.now ∷ map expression c.args.sides.now) c.in_ok-trees.ensures j (c.in_ok-literals.ensures.judged E s at)) (decides_at E s c.literals.new.env there b (λ F. AssignsRange F c.args.sides.now c.args.expr.now) c.in_ok-given.ensures)))

pub returns-clause-same : goal.returns-clause-same
returns-clause-same g c = c.in_ok-body.ensures.same ∙ c.in_ok-literals.ensures.same

pub returns-clause-judged : goal.returns-clause-judged
returns-clause-judged g c = λ E s at.
    let f = c.args.walk.now.frame.now in
    let B = blocks_of f in
    let r = enclosing_of f in
    let there = same_at E s c.args.env.now c.literals.new.env c.in_ok-literals.ensures.same at in
    let j = c.in_ok-literals.literals in
    let b = c.in_ok-given.given in
    let body = c.in_ok-body.body in
    kind_same E B r s (StmtKind-F.RangeAssign c.args.sides.now c.args.expr.now c.args.body.now) s (both (with_test j b) body) c.both.result (c.both.ensures ∙ ap (λ (x : Judged). both x body) c.with_test-head.ensures)
    (assigned_followed E B r s c.args.expr.now c.args.sides.now c.args.body.now (with_test j b) body (sym (ap (λ (x : Judged). x.typed) c.with_test-head.ensures) ∙ c.if-not-typed.false)
    (assigned_head E B r s c.args.expr.now c.args.sides.now c.args.body.now j b (literals_as E B r s (nodes_in c.in_ok-trees.trees) (expression c.args.expr.now ∷ map expression c.args.sides.now) c.in_ok-trees.ensures j (c.in_ok-literals.ensures.judged E s at)) (decides_at E s c.literals.new.env there b (λ F. AssignsRange F c.args.sides.now c.args.expr.now) c.in_ok-given.ensures))
    (c.in_ok-body.ensures.judged E s there))
