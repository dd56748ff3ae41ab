use Rattle.go_flat_statements.proofs.FlatKinds.{flat_judged, kind_same}
use Rattle.go_flat_statements.specs.Flat.{Fits}
use Rattle.go_judged.specs.Judging.{with_test}
use Rattle.go_local_scopes.proofs.Standing.{decides_at, same_at}
use Rattle.go_nodes.specs.Trees.{nodes_in}
use Rattle.go_statement_rules.specs.Contexts.{own_nodes}
use Rattle.go_syntax.specs.declared.statement.StmtKind.{out-StmtKind}
use Rattle.go_walks.proofs.Gathered.{literals_as}
use Rattle.go_walks.specs.Below.{blocks_of, enclosing_of}
use Rattle.go_flat_statements.proofs.flat.flat.Goals as goal

pub returns-clause-judged : goal.returns-clause-judged
returns-clause-judged g c = λ is_flat E s at.
    let f = c.args.walk.now.frame.now in
    let B = blocks_of f in
    let r = enclosing_of f in
    let k = out-StmtKind c.args.kind.now in
    let j = c.in_ok-literals.literals in
    let b = c.in_ok-fit.fit in
    let there = same_at E s c.args.env.now c.literals.new.env c.in_ok-literals.ensures.same at in
    kind_same E B r s k s (with_test j b) c.with_test.result c.with_test.ensures
    (flat_judged E B r s k is_flat j b (literals_as E B r s (nodes_in c.in_ok-trees.trees) (own_nodes k) c.in_ok-trees.ensures j (c.in_ok-literals.ensures.judged E s at))
    (decides_at E s c.literals.new.env there b (λ F. Fits F f.results.now k) c.in_ok-fit.ensures))
