use Rattle.std.proofs.Common.{◌<◌, length, arith, rules}
use Rattle.go_base.specs.Lists.{Each}
use Rattle.questions.proofs.Graphs.{next_bound}
use Rattle.questions.proofs.units.is_graph.Goals as goal

pub loop-node-preserved : goal.loop-node-preserved
loop-node-preserved c n m less h =
    let below : Each (λ k. k < length c.args.graph.now) c.items.result.now = search rules in
    next_bound c.args.graph.now c.loop-node.node n m (length c.args.graph.now) c.items.result.now c.index-graph-node.result (omega arith) c.index-graph-node.is c.items.ensures below c.loop-node.invariant less h
