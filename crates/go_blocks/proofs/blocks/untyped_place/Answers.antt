use Rattle.std.specs.Prelude.{IfOk}
use Rattle.go_blocks.proofs.Framed.{in_frame, iota_back, told_there}
use Rattle.go_blocks.specs.Answers.{FindsBlock}
use Rattle.go_local_scopes.specs.States.{around}
use Rattle.go_switch_statements.specs.go_walks.Below.{blocks_of, enclosing_of}
use Rattle.go_blocks.proofs.blocks.untyped_place.Goals as goal

pub returns-clause-same : goal.returns-clause-same
returns-clause-same c = iota_back c.args.env.now c.set_iota.new.self c.opened_place-place.new.env c.set_iota-2.new.self c.iota-before.result c.set_iota.ensures c.opened_place-place.ensures.same c.iota-before.ensures c.set_iota-2.ensures

pub returns-clause-found : goal.returns-clause-found
returns-clause-found c =
    let e = c.args.env.now in
    let f = c.new-frame.result in
    let p = c.opened_place-place.result in
    in_frame f c.args.blocks.now c.args.results.now c.args.first c.new-frame.ensures.blocks c.new-frame.ensures.results c.new-frame.ensures.first (λ B r. IfOk p (FindsBlock (around e) B r e.opened c.args.block.now))
    (told_there e c.set_iota.new.self c.set_iota.ensures p (λ E s. FindsBlock E (blocks_of f) (enclosing_of f) s c.args.block.now) c.opened_place-place.ensures.found)
