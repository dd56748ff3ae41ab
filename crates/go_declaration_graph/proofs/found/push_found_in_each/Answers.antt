use Rattle.std.proofs.Common.{arith}
use Rattle.go_imports.proofs.GrowingSets.{grows_next, grows_none, grows_whole}
use Rattle.go_rules.specs.Scopes.{env_of}
use Rattle.go_declaration_graph.specs.inner.FoundNumbers.{FindsNumberIn}
use Rattle.go_declaration_graph.proofs.found.push_found_in_each.Goals as goal

pub loop-tree-init : goal.loop-tree-init
loop-tree-init c = grows_none (FindsNumberIn (env_of c.args.env.now) c.args.names.now c.args.index.now.tables) c.args.row.now

pub loop-tree-preserved : goal.loop-tree-preserved
loop-tree-preserved c =
    grows_next (FindsNumberIn (env_of c.args.env.now) c.args.names.now c.args.index.now.tables) c.args.trees.now c.loop-tree.tree-index c.tree-item.result c.args.row.now c.loop-tree.row c.push_found_in.new.row
    c.loop-tree-test.true c.tree-item.is c.loop-tree.invariant c.in_ok-push_found_in.ensures

pub returns : goal.returns
returns c = grows_whole (FindsNumberIn (env_of c.args.env.now) c.args.names.now c.args.index.now.tables) c.args.trees.now c.loop-tree.tree-index c.args.row.now c.loop-tree.row (omega arith) c.loop-tree.invariant
