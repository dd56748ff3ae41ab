use Rattle.go_base.specs.Lists.{Each}
use Rattle.go_nested_statements.specs.go_flat_statements.Judging.{JudgesKind}
use Rattle.go_judged.specs.Judging.{Among, Judges}
use Rattle.go_judged.specs.declared.judged.Judged.{Judged}
use Rattle.go_local_scopes.specs.States.{IsAt}
use Rattle.go_switch_statements.proofs.Selected.{select_judged}
use Rattle.go_switch_statements.specs.Selecting.{InSelectCase, IsTypedSelectCase}
use Rattle.go_rules.specs.Environments.{Env}
use Rattle.go_statement_rules.specs.Scopes.{Scopes}
use Rattle.go_syntax.specs.declared.statement.StmtKind.{StmtKind-F}
use Rattle.go_walks.specs.Below.{blocks_of, enclosing_of}
use Rattle.std.proofs.lemmas.Result.{IfOk-weaker}
use Rattle.go_switch_statements.proofs.selects.select.Goals as goal

pub returns-clause-judged : goal.returns-clause-judged
returns-clause-judged g c =
    let f = c.args.walk.now.frame.now in
    let B = blocks_of f in
    let r = enclosing_of f in
    let cs = c.args.cases.now in
    let e = c.args.env.now in
    IfOk-weaker c.clauses.result
    (λ (j : Judged). (E : Env) (s : Scopes) → IsAt E s e → Judges E B (Each (IsTypedSelectCase E B r s) cs) (Among (InSelectCase E B r s) cs) j)
    (λ (j : Judged). (E : Env) (s : Scopes) → IsAt E s e → JudgesKind E B r s (StmtKind-F.Select cs) s j)
    (λ j k E s at. select_judged E B r s cs j (k E s at))
    c.clauses.ensures.judged
