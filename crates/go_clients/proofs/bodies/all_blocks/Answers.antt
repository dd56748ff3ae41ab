use Rattle.std.proofs.Common.{◌∙◌, arith}
use Rattle.go_clients.proofs.LookedThrough.{blocks_next, blocks_whole}
use Rattle.go_clients.proofs.bodies.all_blocks.Goals as goal

pub loop-list-preserved : goal.loop-list-preserved
loop-list-preserved c =
    blocks_next c.args.lists.now c.loop-list.list-index c.list-item.result c.new-blocks.result c.loop-list.all c.push.new.self c.loop-list-test.true c.list-item.is (c.new-blocks.ensures ∙ c.items.ensures) c.in_ok-push.ensures.ok c.loop-list.invariant

pub returns : goal.returns
returns c = blocks_whole c.args.lists.now c.loop-list.list-index c.loop-list.all (omega arith) c.loop-list.invariant
