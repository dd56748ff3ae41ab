use Rattle.go_judged.specs.Judging.{JudgesTo}
use Rattle.go_judged.specs.declared.judged.Judged.{Judged}
use Rattle.go_local_scopes.proofs.Standing.{kept_none}
use Rattle.go_local_scopes.specs.States.{IsAt}
use Rattle.go_rules.specs.Environments.{Env}
use Rattle.go_statement_rules.specs.Functions.{run}
use Rattle.go_statement_rules.specs.Scopes.{Scopes}
use Rattle.go_statement_rules.specs.Statements.{Leaves, kind_of}
use Rattle.go_syntax.specs.declared.statement.Stmt.{Stmt}
use Rattle.go_untyped_places.specs.Parts.{IsLone}
use Rattle.go_walks.proofs.InnerRuns.{none_judged, some_stays}
use Rattle.go_walks.specs.Below.{blocks_of, enclosing_of}
use Rattle.go_walks.specs.Standing.{Stays}
use Rattle.std.proofs.Common.{◌≡◌, [], ◌∷◌, Option, Some, sym, subst}
use Rattle.std.proofs.lemmas.Result.{IfOk-weaker}
use Rattle.std.specs.Prelude.{IfOk}
use Rattle.go_walks.proofs.walk.Walk.optional.Goals as goal

pub returns-in-Some-clause-judged : goal.returns-in-Some-clause-judged
returns-in-Some-clause-judged g c =
    let w = c.args.self.now.frame.now in
    let B = blocks_of w in
    let r = enclosing_of w in
    let x = c.in-Some.statement in
    let t = c.lone.new.env.opened in
    subst (λ (z : Option Stmt). IfOk c.lone.result (λ (j : Judged). (E : Env) (s : Scopes) → IsAt E s c.args.env.now → JudgesTo E B (Stays E B r s z) t (IsLone E B r s z) j)) (sym c.in-Some.is)
    (IfOk-weaker c.lone.result
    (λ (j : Judged). (E : Env) (s : Scopes) → IsAt E s c.args.env.now → JudgesTo E B (Leaves E B r s (kind_of x)) t (λ v. v ≡ run r s (x ∷ [])) j)
    (λ (j : Judged). (E : Env) (s : Scopes) → IsAt E s c.args.env.now → JudgesTo E B (Stays E B r s (Some x)) t (IsLone E B r s (Some x)) j)
    (λ j k E s at. some_stays E B r s x t j (k E s at))
    c.lone.ensures.judged)

pub returns-in-None-clause-kept : goal.returns-in-None-clause-kept
returns-in-None-clause-kept g c = kept_none c.args.env.now c.requires.opened

pub returns-in-None-clause-judged : goal.returns-in-None-clause-judged
returns-in-None-clause-judged g c = λ E s at.
    let w = c.args.self.now.frame.now in
    let B = blocks_of w in
    let r = enclosing_of w in
    let t = c.args.env.now.opened in
    subst (λ (z : Option Stmt). JudgesTo E B (Stays E B r s z) t (IsLone E B r s z) c.tested.result) (sym c.in-None.is) (none_judged E B r s t at.scopes c.tested.result c.tested.ensures)
