use Rattle.go_judged.proofs.Joining.{judged_same}
use Rattle.go_judged.specs.Judging.{Judges, tested}
use Rattle.go_judged.specs.declared.judged.Judged.{Judged}
use Rattle.go_local_scopes.specs.States.{IsAt}
use Rattle.go_rules.specs.Environments.{Env}
use Rattle.go_statement_rules.specs.Scopes.{Scopes}
use Rattle.go_switch_statements.proofs.Switched.{no_values_judged}
use Rattle.go_switch_statements.specs.Casing.{AreValues, InValues}
use Rattle.go_syntax.specs.declared.expression.Expr.{Expr}
use Rattle.go_walks.specs.Below.{blocks_of, enclosing_of}
use Rattle.std.proofs.Common.{◌∙◌, List, None, Option, Some, ap, subst, sym, true}
use Rattle.std.specs.Prelude.{IfOk}
use Rattle.go_switch_statements.proofs.switches.values.Goals as goal

pub returns-in-Some-clause-judged : goal.returns-in-Some-clause-judged
returns-in-Some-clause-judged g c =
    let f = c.args.walk.now.frame.now in
    let B = blocks_of f in
    let r = enclosing_of f in
    let u = c.args.term.now in
    subst (λ (x : Option (List Expr)). IfOk c.some_values.result (λ (j : Judged). (E : Env) (s : Scopes) → IsAt E s c.args.env.now → Judges E B (AreValues E B r s u x) (InValues E B r s x) j)) (ap Some c.items.ensures ∙ sym c.in-Some.is)
    c.some_values.ensures.judged

pub returns-in-None-clause-judged : goal.returns-in-None-clause-judged
returns-in-None-clause-judged g c = λ E s at.
    let f = c.args.walk.now.frame.now in
    let B = blocks_of f in
    let r = enclosing_of f in
    let u = c.args.term.now in
    subst (λ (x : Option (List Expr)). Judges E B (AreValues E B r s u x) (InValues E B r s x) c.tested.result) (sym c.in-None.is)
    (judged_same E B (AreValues E B r s u None) (InValues E B r s None) (tested true) c.tested.result c.tested.ensures (no_values_judged E B r s u))
