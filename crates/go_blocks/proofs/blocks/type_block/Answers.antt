use Rattle.go_blocks.proofs.Framed.{told_block}
use Rattle.go_local_scopes.specs.States.{around}
use Rattle.go_blocks.proofs.blocks.type_block.Goals as goal

pub returns-clause-told : goal.returns-clause-told
returns-clause-told c = let e = c.args.env.now in told_block (around e) c.args.blocks.now.list.now (record { results = c.args.results.now; first = c.args.first }) e.opened c.args.block.now c.untyped_place.result c.answer.result c.answer.ensures c.untyped_place.ensures.found
