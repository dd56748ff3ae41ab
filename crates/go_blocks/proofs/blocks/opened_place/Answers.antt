use Rattle.std.proofs.Common.{ℕ, Option}
use Rattle.std.proofs.lemmas.Result.{IfOk-weaker}
use Rattle.go_blocks.proofs.Framed.{block_finds}
use Rattle.go_blocks.specs.Answers.{FindsBlock}
use Rattle.go_judged.specs.Judging.{Finds}
use Rattle.go_local_scopes.proofs.Standing.{closed_same, kept_opened, opened_some, opened_told}
use Rattle.go_local_scopes.specs.States.{IsAt}
use Rattle.go_rules.specs.Environments.{Env}
use Rattle.go_statement_rules.specs.Scopes.{Scopes, opened}
use Rattle.go_switch_statements.specs.go_walks.Below.{blocks_of, enclosing_of}
use Rattle.go_blocks.proofs.blocks.opened_place.Goals as goal

pub place_in-place-requires : goal.place_in-place-requires
place_in-place-requires c = opened_some c.args.env.now c.open_scope.new.self c.in_ok-open_scope.ensures.ok

pub close_scope-requires : goal.close_scope-requires
close_scope-requires c = kept_opened c.open_scope.new.self c.place_in-place.new.env c.place_in-place.ensures.kept

pub returns-clause-same : goal.returns-clause-same
returns-clause-same c = closed_same c.args.env.now c.open_scope.new.self c.place_in-place.new.env c.close_scope.new.self c.in_ok-open_scope.ensures.ok c.place_in-place.ensures.kept c.close_scope.ensures

pub returns-clause-found : goal.returns-clause-found
returns-clause-found c =
    let f = c.args.frame.now in
    let B = blocks_of f in
    let r = enclosing_of f in
    let ss = c.args.block.now in
    let mid = c.open_scope.new.self in
    let t = c.place_in-place.new.env.opened in
    opened_told c.args.env.now mid c.in_ok-open_scope.ensures.ok c.place_in-place.result (λ E s p. FindsBlock E B r s ss p)
    (IfOk-weaker c.place_in-place.result
    (λ (p : Option ℕ). (E : Env) (s : Scopes) → IsAt E s mid → Finds E B r s ss t p)
    (λ (p : Option ℕ). (E : Env) (s : Scopes) → IsAt E (opened s) mid → FindsBlock E B r s ss p)
    (λ p k E s at. block_finds E B r s ss t p (k E (opened s) at))
    c.place_in-place.ensures.runs)
