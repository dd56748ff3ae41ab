use Rattle.go_type_switches.specs.go_clauses.Clauses.{IsGuardOf}
use Rattle.go_judged.proofs.Joining.{judged_same, judged_test}
use Rattle.go_judged.specs.Judging.{both, with_test}
use Rattle.go_judged.specs.declared.judged.Judged.{Judged}
use Rattle.go_local_scopes.proofs.Standing.{back_at, decides_at, holds_at, same_at}
use Rattle.go_nodes.specs.Trees.{nodes_in}
use Rattle.go_operators.proofs.Answers.{found_none, found_some}
use Rattle.go_rules.specs.Nodes.{expression}
use Rattle.go_rules.specs.Scopes.{env_of}
use Rattle.go_statement_rules.specs.Statements.{NamesSomething}
use Rattle.go_switch_statements.proofs.Guarded.{guarded, unguarded, unnamed}
use Rattle.go_switch_statements.specs.Binding.{InGuarded, IsTypedGuarded}
use Rattle.go_type_switches.specs.Switches.{AreClausesOf}
use Rattle.go_untyped_places.specs.LiteralRuns.{IsLiteralRun}
use Rattle.go_walks.proofs.Gathered.{literals_as}
use Rattle.go_walks.specs.Below.{blocks_of, enclosing_of}
use Rattle.go_walks.specs.Literals.{LiteralsTyped}
use Rattle.std.proofs.Common.{◌∙◌, ◌∷◌, [], ap, false, sym}
use Rattle.go_switch_statements.proofs.type_switches.guarded.Goals as goal

pub returns-in-None-clause-judged : goal.returns-in-None-clause-judged
returns-in-None-clause-judged g c = λ E s at.
    let f = c.args.walk.now.frame.now in
    let B = blocks_of f in
    let r = enclosing_of f in
    let n = c.args.name.now in
    let e = c.args.expr.now in
    let cs = c.args.cases.now in
    let j = c.in_ok-literals.literals in
    let y = c.literals.new.env in
    let there = same_at E s c.args.env.now y c.in_ok-literals.ensures.same at in
    let lits = literals_as E B r s (nodes_in c.in_ok-trees.trees) (expression e ∷ []) c.in_ok-trees.ensures j (c.in_ok-literals.ensures.judged E s at) in
    let d = c.names_something-named.result in
    let head = judged_test E B (LiteralsTyped E B r s (expression e ∷ [])) (NamesSomething n) (IsLiteralRun E B r s (expression e ∷ [])) j d lits c.names_something-named.ensures in
    judged_same E B (IsTypedGuarded E B r s n e cs) (InGuarded E B r s n e cs) (with_test (with_test j d) false) c.with_test.result (c.with_test.ensures ∙ ap (λ (x : Judged). with_test x false) c.with_test-head.ensures)
    (unguarded E B r s n e cs (with_test j d) head (λ i h. found_none (IsGuardOf (env_of y) e) c.in_ok-given.given c.in-None.is c.in_ok-given.ensures i (back_at E s y there (λ F. IsGuardOf F e i) h)))

pub returns-then-not-typed-clause-judged : goal.returns-then-not-typed-clause-judged
returns-then-not-typed-clause-judged g c = λ E s at.
    let f = c.args.walk.now.frame.now in
    let B = blocks_of f in
    let r = enclosing_of f in
    let n = c.args.name.now in
    let e = c.args.expr.now in
    let cs = c.args.cases.now in
    let j = c.in_ok-literals.literals in
    let lits = literals_as E B r s (nodes_in c.in_ok-trees.trees) (expression e ∷ []) c.in_ok-trees.ensures j (c.in_ok-literals.ensures.judged E s at) in
    let d = c.names_something-named.result in
    let head = judged_test E B (LiteralsTyped E B r s (expression e ∷ [])) (NamesSomething n) (IsLiteralRun E B r s (expression e ∷ [])) j d lits c.names_something-named.ensures in
    judged_same E B (IsTypedGuarded E B r s n e cs) (InGuarded E B r s n e cs) (with_test j d) c.with_test-head.result c.with_test-head.ensures
    (unnamed E B r s n e cs (with_test j d) head (sym (ap (λ (x : Judged). x.typed) c.with_test-head.ensures) ∙ c.if-not-typed.true))

pub returns-in_err-cases-clause-same : goal.returns-in_err-cases-clause-same
returns-in_err-cases-clause-same g c = c.in_err-cases.ensures.same ∙ c.in_ok-literals.ensures.same

pub returns-clause-same : goal.returns-clause-same
returns-clause-same g c = c.in_ok-cases.ensures.same ∙ c.in_ok-literals.ensures.same

pub returns-clause-judged : goal.returns-clause-judged
returns-clause-judged g c = λ E s at.
    let f = c.args.walk.now.frame.now in
    let B = blocks_of f in
    let r = enclosing_of f in
    let n = c.args.name.now in
    let e = c.args.expr.now in
    let cs = c.args.cases.now in
    let j = c.in_ok-literals.literals in
    let y = c.literals.new.env in
    let there = same_at E s c.args.env.now y c.in_ok-literals.ensures.same at in
    let lits = literals_as E B r s (nodes_in c.in_ok-trees.trees) (expression e ∷ []) c.in_ok-trees.ensures j (c.in_ok-literals.ensures.judged E s at) in
    let d = c.names_something-named.result in
    let head = judged_test E B (LiteralsTyped E B r s (expression e ∷ [])) (NamesSomething n) (IsLiteralRun E B r s (expression e ∷ [])) j d lits c.names_something-named.ensures in
    let i = c.in-Some.interface in
    let h = with_test j d in
    let b = c.in_ok-cases.cases in
    let l = c.in_ok-listed.listed in
    judged_same E B (IsTypedGuarded E B r s n e cs) (InGuarded E B r s n e cs) (both h (with_test b l)) c.both.result
    (c.both.ensures ∙ ap (λ (x : Judged). both x c.with_test-rest.result) c.with_test-head.ensures ∙ ap (both h) c.with_test-rest.ensures)
    (guarded E B r s n e cs h head i (holds_at E s y there (λ F. IsGuardOf F e i) (found_some (IsGuardOf (env_of y) e) c.in_ok-given.given i c.in-Some.is c.in_ok-given.ensures))
    (sym (ap (λ (x : Judged). x.typed) c.with_test-head.ensures) ∙ c.if-not-typed.false) b l (c.in_ok-cases.ensures.judged E s there) (decides_at E s y there l (λ F. AreClausesOf F i cs) c.in_ok-listed.ensures))
