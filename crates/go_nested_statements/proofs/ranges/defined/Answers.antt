use Rattle.go_clauses.specs.Clauses.{RangesOver, TakesNames}
use Rattle.go_flat_statements.proofs.FlatKinds.{kind_same}
use Rattle.go_judged.specs.Judging.{Judges, both, with_test}
use Rattle.go_judged.specs.declared.judged.Judged.{Judged}
use Rattle.go_local_scopes.proofs.Standing.{back_at, holds_at, same_at}
use Rattle.go_model.specs.declared.types.term.Term.{Term}
use Rattle.go_nested_statements.proofs.Ranged.{defined_failed, defined_followed, defined_head, defined_nothing, enough_named}
use Rattle.go_nested_statements.specs.Ranging.{IsTypedNamed, NamedRun}
use Rattle.go_nodes.specs.Trees.{nodes_in}
use Rattle.go_operators.proofs.Answers.{found_none, found_some}
use Rattle.go_rules.specs.Nodes.{expression}
use Rattle.go_rules.specs.Scopes.{env_of}
use Rattle.go_selectors.specs.Answers.{Decides}
use Rattle.go_statement_rules.specs.Scopes.{opened}
use Rattle.go_syntax.specs.declared.statement.StmtKind.{StmtKind-F}
use Rattle.go_flat_statements.proofs.go_walks_proofs.Gathered.{literals_as}
use Rattle.go_flat_statements.specs.go_walks.Below.{blocks_of, enclosing_of}
use Rattle.std.proofs.Common.{◌∷◌, ◌∙◌, ◌≤◌, [], List, ap, false, length, subst, sym}
use Rattle.go_nested_statements.proofs.ranges.defined.Goals as goal

pub returns-in-None-clause-judged : goal.returns-in-None-clause-judged
returns-in-None-clause-judged g c = λ E s at.
    let f = c.args.walk.now.frame.now in
    let B = blocks_of f in
    let r = enclosing_of f in
    let there = same_at E s c.args.env.now c.literals.new.env c.in_ok-literals.ensures.same at in
    let j = c.in_ok-literals.literals in
    let e = c.args.expr.now in
    kind_same E B r s (StmtKind-F.RangeDefine c.args.names.now e c.args.body.now) s (with_test j false) c.with_test.result c.with_test.ensures
    (defined_nothing E B r s e c.args.names.now c.args.body.now (λ ts o. found_none (RangesOver (env_of c.literals.new.env) e) c.in_ok-given.given c.in-None.is c.in_ok-given.ensures ts (back_at E s c.literals.new.env there (λ F. RangesOver F e ts) o)) j (literals_as E B r s (nodes_in c.in_ok-trees.trees) (expression e ∷ []) c.in_ok-trees.ensures j (c.in_ok-literals.ensures.judged E s at)))

pub returns-then-not-typed-clause-judged : goal.returns-then-not-typed-clause-judged
returns-then-not-typed-clause-judged g c = λ E s at.
    let f = c.args.walk.now.frame.now in
    let B = blocks_of f in
    let r = enclosing_of f in
    let there = same_at E s c.args.env.now c.literals.new.env c.in_ok-literals.ensures.same at in
    let j = c.in_ok-literals.literals in
    let e = c.args.expr.now in
    let ts = c.in-Some.terms in
    let over = holds_at E s c.literals.new.env there (λ F. RangesOver F e ts) (found_some (RangesOver (env_of c.literals.new.env) e) c.in_ok-given.given ts c.in-Some.is c.in_ok-given.ensures) in
    let b = c.range_defined-fit.result in
    kind_same E B r s (StmtKind-F.RangeDefine c.args.names.now e c.args.body.now) s (with_test j b) c.with_test-head.result c.with_test-head.ensures
    (defined_failed E B r s e c.args.names.now c.args.body.now ts over (with_test j b) (sym (ap (λ (x : Judged). x.typed) c.with_test-head.ensures) ∙ c.if-not-typed.true)
    (defined_head E B r s e c.args.names.now c.args.body.now ts over j b (literals_as E B r s (nodes_in c.in_ok-trees.trees) (expression e ∷ []) c.in_ok-trees.ensures j (c.in_ok-literals.ensures.judged E s at)) (subst (λ (us : List Term). Decides b (TakesNames c.args.names.now us)) c.items.ensures c.range_defined-fit.ensures)))

pub named-requires-clause-enough : goal.named-requires-clause-enough
named-requires-clause-enough g c =
    let ns = c.args.names.now in
    subst (λ (us : List Term). length ns ≤ length us) (sym c.items-2.ensures)
    (enough_named ns c.in-Some.terms c.in_ok-literals.literals c.with_test-head.result c.range_defined-fit.result c.with_test-head.ensures c.if-not-typed.false
    (subst (λ (us : List Term). Decides c.range_defined-fit.result (TakesNames ns us)) c.items.ensures c.range_defined-fit.ensures))

pub returns-clause-same : goal.returns-clause-same
returns-clause-same g c = c.in_ok-body.ensures.same ∙ c.in_ok-literals.ensures.same

pub returns-clause-judged : goal.returns-clause-judged
returns-clause-judged g c = λ E s at.
    let f = c.args.walk.now.frame.now in
    let B = blocks_of f in
    let r = enclosing_of f in
    let there = same_at E s c.args.env.now c.literals.new.env c.in_ok-literals.ensures.same at in
    let j = c.in_ok-literals.literals in
    let e = c.args.expr.now in
    let ts = c.in-Some.terms in
    let over = holds_at E s c.literals.new.env there (λ F. RangesOver F e ts) (found_some (RangesOver (env_of c.literals.new.env) e) c.in_ok-given.given ts c.in-Some.is c.in_ok-given.ensures) in
    let b = c.range_defined-fit.result in
    let body = c.in_ok-body.body in
    kind_same E B r s (StmtKind-F.RangeDefine c.args.names.now e c.args.body.now) s (both (with_test j b) body) c.both.result (c.both.ensures ∙ ap (λ (x : Judged). both x body) c.with_test-head.ensures)
    (defined_followed E B r s e c.args.names.now c.args.body.now ts over (with_test j b) body (sym (ap (λ (x : Judged). x.typed) c.with_test-head.ensures) ∙ c.if-not-typed.false)
    (defined_head E B r s e c.args.names.now c.args.body.now ts over j b (literals_as E B r s (nodes_in c.in_ok-trees.trees) (expression e ∷ []) c.in_ok-trees.ensures j (c.in_ok-literals.ensures.judged E s at)) (subst (λ (us : List Term). Decides b (TakesNames c.args.names.now us)) c.items.ensures c.range_defined-fit.ensures))
    (subst (λ (us : List Term). Judges E B (IsTypedNamed E B r (opened s) c.args.names.now us c.args.body.now) (NamedRun r (opened s) c.args.names.now us c.args.body.now) body) c.items-2.ensures (c.in_ok-body.ensures.judged E s there)))
