use Rattle.go_judged.proofs.Joining.{judged_same}
use Rattle.go_judged.specs.Judging.{Judges, both, with_test}
use Rattle.go_local_scopes.proofs.Standing.{back_at, holds_at, same_at}
use Rattle.go_model.specs.declared.types.term.Term.{Term}
use Rattle.go_nodes.specs.Trees.{nodes_in}
use Rattle.go_operators.proofs.Answers.{found_none, found_some}
use Rattle.go_rules.specs.Scopes.{env_of}
use Rattle.go_statement_rules.specs.Clauses.{bound_type}
use Rattle.go_statement_rules.specs.Statements.{listed_nodes}
use Rattle.go_switch_statements.proofs.Guarded.{type_cased, unlisted, unliteral}
use Rattle.go_switch_statements.specs.Binding.{BoundRun, InTypeCase, IsTypedBound, IsTypedTypeCase, ListsMet}
use Rattle.go_syntax.specs.declared.statement.TypeCase.{out-TypeCase}
use Rattle.go_walks.proofs.Gathered.{literals_as}
use Rattle.go_walks.specs.Below.{blocks_of, enclosing_of}
use Rattle.std.proofs.Common.{◌∙◌, ap, false, subst}
use Rattle.go_switch_statements.proofs.type_switches.type_case.Goals as goal

pub returns-in-None-clause-judged : goal.returns-in-None-clause-judged
returns-in-None-clause-judged g c = λ E s at.
    let f = c.args.walk.now.frame.now in
    let B = blocks_of f in
    let r = enclosing_of f in
    let n = c.args.name.now in
    let i = c.args.interface.now in
    let k = c.args.case.now in
    let ts = (out-TypeCase k).types in
    let j = c.in_ok-literals.literals in
    let y = c.literals.new.env in
    let there = same_at E s c.args.env.now y c.in_ok-literals.ensures.same at in
    let lits = literals_as E B r s (nodes_in c.in_ok-trees.trees) (listed_nodes ts) c.in_ok-trees.ensures j (c.in_ok-literals.ensures.judged E s at) in
    judged_same E B (IsTypedTypeCase E B r s n i k) (InTypeCase E B r s n i k) (with_test j false) c.with_test.result c.with_test.ensures
    (unlisted E B r s n i k j lits (λ xs h. found_none (ListsMet (env_of y) i ts) c.in_ok-given.given c.in-None.is c.in_ok-given.ensures xs (back_at E s y there (λ F. ListsMet F i ts xs) h)))

pub returns-then-not-typed-clause-judged : goal.returns-then-not-typed-clause-judged
returns-then-not-typed-clause-judged g c = λ E s at.
    let f = c.args.walk.now.frame.now in
    let B = blocks_of f in
    let r = enclosing_of f in
    let j = c.in_ok-literals.literals in
    let lits = literals_as E B r s (nodes_in c.in_ok-trees.trees) (listed_nodes (out-TypeCase c.args.case.now).types) c.in_ok-trees.ensures j (c.in_ok-literals.ensures.judged E s at) in
    unliteral E B r s c.args.name.now c.args.interface.now c.args.case.now j lits c.if-not-typed.true

pub returns-in_err-body-clause-same : goal.returns-in_err-body-clause-same
returns-in_err-body-clause-same g c = c.in_err-body.ensures.same ∙ c.in_ok-literals.ensures.same

pub returns-clause-same : goal.returns-clause-same
returns-clause-same g c = c.in_ok-body.ensures.same ∙ c.in_ok-literals.ensures.same

pub returns-clause-judged : goal.returns-clause-judged
returns-clause-judged g c = λ E s at.
    let f = c.args.walk.now.frame.now in
    let B = blocks_of f in
    let r = enclosing_of f in
    let n = c.args.name.now in
    let i = c.args.interface.now in
    let k = c.args.case.now in
    let ts = (out-TypeCase k).types in
    let j = c.in_ok-literals.literals in
    let y = c.literals.new.env in
    let there = same_at E s c.args.env.now y c.in_ok-literals.ensures.same at in
    let lits = literals_as E B r s (nodes_in c.in_ok-trees.trees) (listed_nodes ts) c.in_ok-trees.ensures j (c.in_ok-literals.ensures.judged E s at) in
    let xs = c.in-Some.all in
    let b = c.in_ok-body.body in
    let lists = holds_at E s y there (λ F. ListsMet F i ts xs) (found_some (ListsMet (env_of y) i ts) c.in_ok-given.given xs c.in-Some.is c.in_ok-given.ensures) in
    let ss = (out-TypeCase k).body in
    let same = c.bound_type-term.ensures ∙ ap (bound_type i) c.items.ensures in
    judged_same E B (IsTypedTypeCase E B r s n i k) (InTypeCase E B r s n i k) (both j b) c.both.result c.both.ensures
    (type_cased E B r s n i k j lits xs lists c.if-not-typed.false b (subst (λ (u : Term). Judges E B (IsTypedBound E B r s n u ss) (BoundRun r s n u ss) b) same (c.in_ok-body.ensures.judged E s there)))
