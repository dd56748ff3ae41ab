use Rattle.go_type_switches.specs.go_clauses.Clauses.{IsTagOf}
use Rattle.go_judged.proofs.Joining.{judged_same}
use Rattle.go_judged.specs.Judging.{both, with_test}
use Rattle.go_local_scopes.proofs.Standing.{back_at, holds_at, same_at}
use Rattle.go_nodes.specs.Trees.{nodes_in}
use Rattle.go_operators.proofs.Answers.{found_none, found_some}
use Rattle.go_rules.proofs.NamedEntries.{item_copied}
use Rattle.go_rules.specs.Scopes.{env_of}
use Rattle.go_statement_rules.specs.Statements.{tag_nodes}
use Rattle.go_switch_statements.proofs.Switched.{tag_followed, tag_unliteral, untagged}
use Rattle.go_switch_statements.specs.Casing.{InTagged, IsTypedTagged}
use Rattle.go_walks.proofs.Gathered.{literals_as}
use Rattle.go_walks.specs.Below.{blocks_of, enclosing_of}
use Rattle.std.proofs.Common.{◌∙◌, ap, false}
use Rattle.go_switch_statements.proofs.switches.tagged.Goals as goal

pub returns-in-None-clause-judged : goal.returns-in-None-clause-judged
returns-in-None-clause-judged g c = λ E s at.
    let f = c.args.walk.now.frame.now in
    let B = blocks_of f in
    let r = enclosing_of f in
    let e = c.args.expr.now in
    let cs = c.args.cases.now in
    let j = c.in_ok-literals.literals in
    let y = c.literals.new.env in
    let there = same_at E s c.args.env.now y c.in_ok-literals.ensures.same at in
    let lits = literals_as E B r s (nodes_in c.in_ok-trees.trees) (tag_nodes e) (c.in_ok-trees.ensures ∙ ap tag_nodes (item_copied c.as_ref.result ∙ c.as_ref.ensures.value)) j (c.in_ok-literals.ensures.judged E s at) in
    judged_same E B (IsTypedTagged E B r s e cs) (InTagged E B r s e cs) (with_test j false) c.with_test.result c.with_test.ensures
    (untagged E B r s e cs j lits (λ u k. found_none (IsTagOf (env_of y) e) c.in_ok-given.given c.in-None.is c.in_ok-given.ensures u (back_at E s y there (λ F. IsTagOf F e u) k)))

pub returns-then-not-typed-clause-judged : goal.returns-then-not-typed-clause-judged
returns-then-not-typed-clause-judged g c = λ E s at.
    let f = c.args.walk.now.frame.now in
    let B = blocks_of f in
    let r = enclosing_of f in
    let e = c.args.expr.now in
    let cs = c.args.cases.now in
    let j = c.in_ok-literals.literals in
    let lits = literals_as E B r s (nodes_in c.in_ok-trees.trees) (tag_nodes e) (c.in_ok-trees.ensures ∙ ap tag_nodes (item_copied c.as_ref.result ∙ c.as_ref.ensures.value)) j (c.in_ok-literals.ensures.judged E s at) in
    tag_unliteral E B r s e cs j lits c.if-not-typed.true

pub returns-in_err-cases-clause-same : goal.returns-in_err-cases-clause-same
returns-in_err-cases-clause-same g c = c.in_err-cases.ensures.same ∙ c.in_ok-literals.ensures.same

pub returns-clause-same : goal.returns-clause-same
returns-clause-same g c = c.in_ok-cases.ensures.same ∙ c.in_ok-literals.ensures.same

pub returns-clause-judged : goal.returns-clause-judged
returns-clause-judged g c = λ E s at.
    let f = c.args.walk.now.frame.now in
    let B = blocks_of f in
    let r = enclosing_of f in
    let e = c.args.expr.now in
    let cs = c.args.cases.now in
    let j = c.in_ok-literals.literals in
    let y = c.literals.new.env in
    let there = same_at E s c.args.env.now y c.in_ok-literals.ensures.same at in
    let lits = literals_as E B r s (nodes_in c.in_ok-trees.trees) (tag_nodes e) (c.in_ok-trees.ensures ∙ ap tag_nodes (item_copied c.as_ref.result ∙ c.as_ref.ensures.value)) j (c.in_ok-literals.ensures.judged E s at) in
    let b = c.in_ok-cases.cases in
    let u = c.in-Some.term in
    judged_same E B (IsTypedTagged E B r s e cs) (InTagged E B r s e cs) (both j b) c.both.result c.both.ensures
    (tag_followed E B r s e cs j lits u (holds_at E s y there (λ F. IsTagOf F e u) (found_some (IsTagOf (env_of y) e) c.in_ok-given.given u c.in-Some.is c.in_ok-given.ensures)) c.if-not-typed.false b (c.in_ok-cases.ensures.judged E s there))
