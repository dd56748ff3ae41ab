use Rattle.go_blocks.specs.Bodies.{EntersWith, IsTypedWith}
use Rattle.go_judged.specs.Judging.{Judges}
use Rattle.go_local_scopes.proofs.Standing.{closed_same, kept_opened, opened_some, opened_told}
use Rattle.go_statement_rules.specs.Scopes.{opened}
use Rattle.go_switch_statements.specs.go_walks.Below.{blocks_of}
use Rattle.go_blocks.proofs.bodies.opened_body.Goals as goal

pub entered-judged-requires : goal.entered-judged-requires
entered-judged-requires c = opened_some c.args.env.now c.open_scope.new.self c.in_ok-open_scope.ensures.ok

pub close_scope-requires : goal.close_scope-requires
close_scope-requires c = kept_opened c.open_scope.new.self c.entered-judged.new.env c.entered-judged.ensures.kept

pub returns-clause-same : goal.returns-clause-same
returns-clause-same c = closed_same c.args.env.now c.open_scope.new.self c.entered-judged.new.env c.close_scope.new.self c.in_ok-open_scope.ensures.ok c.entered-judged.ensures.kept c.close_scope.ensures

pub returns-clause-judged : goal.returns-clause-judged
returns-clause-judged c =
    let B = blocks_of c.args.frame.now in
    let f = c.args.func.now in
    let ts = c.args.received.now in
    let h = c.args.signed.now in
    let ss = c.args.statements.now in
    opened_told c.args.env.now c.open_scope.new.self c.in_ok-open_scope.ensures.ok c.entered-judged.result (λ E s j. Judges E B (IsTypedWith E B (opened s) f ts h c.args.start ss) (EntersWith (opened s) f ts h c.args.start ss) j) c.entered-judged.ensures.judged
