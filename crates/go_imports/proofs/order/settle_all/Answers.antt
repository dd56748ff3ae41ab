use Rattle.std.proofs.Common.{◌≤◌, ℕ, length, List, subst, arith}
use Rattle.go_base.specs.Lists.{Has}
use Rattle.go_imports.proofs.Sorted.{settled, later, sorting_as}
use Rattle.go_imports.proofs.order.settle_all.Goals as goal

pub settle-requires-clause-rows : goal.settle-requires-clause-rows
settle-requires-clause-rows c = c.loop-node.invariant.rows

pub loop-node-preserved : goal.loop-node-preserved
loop-node-preserved c =
    settled c.args.graph.now c.loop-node.invariant c.loop-node.node (omega arith) (λ h. subst (λ (ks : List ℕ). Has ks c.loop-node.node) c.requires.none h) (later c.loop-node.node) c.settle.new.ready.keys c.settle.new.waits.items c.in_ok-settle.ensures

pub returns : goal.returns
returns c = sorting_as c.args.graph.now (λ n. c.loop-node.node ≤ n) (λ n. length c.args.graph.now ≤ n) (λ n below l. omega (arith, l)) c.loop-node.invariant
