use Rattle.go_type_switches.specs.go_clauses.Clauses.{AreCasesOf}
use Rattle.go_judged.proofs.Joining.{judged_same}
use Rattle.go_judged.specs.Judging.{with_test}
use Rattle.go_local_scopes.proofs.Standing.{decides_at, same_at}
use Rattle.go_nodes.specs.Trees.{nodes_in}
use Rattle.go_rules.specs.Nodes.{expression}
use Rattle.go_switch_statements.proofs.Switched.{values_judged}
use Rattle.go_switch_statements.specs.Casing.{AreValues, InValues}
use Rattle.go_walks.proofs.Gathered.{literals_as}
use Rattle.go_walks.specs.Below.{blocks_of, enclosing_of}
use Rattle.std.proofs.Common.{Some, map}
use Rattle.go_switch_statements.proofs.switches.some_values.Goals as goal

pub returns-clause-judged : goal.returns-clause-judged
returns-clause-judged g c = λ E s at.
    let f = c.args.walk.now.frame.now in
    let B = blocks_of f in
    let r = enclosing_of f in
    let j = c.in_ok-literals.literals in
    let u = c.args.term.now in
    let es = c.args.exprs.now in
    let b = c.in_ok-compared.compared in
    let there = same_at E s c.args.env.now c.literals.new.env c.in_ok-literals.ensures.same at in
    judged_same E B (AreValues E B r s u (Some es)) (InValues E B r s (Some es)) (with_test j b) c.with_test.result c.with_test.ensures
    (values_judged E B r s u es j b (literals_as E B r s (nodes_in c.in_ok-trees.trees) (map expression es) c.in_ok-trees.ensures j (c.in_ok-literals.ensures.judged E s at))
    (decides_at E s c.literals.new.env there b (λ F. AreCasesOf F u es) c.in_ok-compared.ensures))
