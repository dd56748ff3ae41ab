use Rattle.std.proofs.Common.{arith}
use Rattle.go_imports.proofs.GrowingSets.{grows_next, grows_none, grows_whole}
use Rattle.go_rules.specs.Scopes.{env_of}
use Rattle.go_declaration_graph.specs.inner.FieldKeys.{KeysField}
use Rattle.go_declaration_graph.proofs.field_keys.add_in_each.Goals as goal

pub loop-tree-init : goal.loop-tree-init
loop-tree-init c = grows_none (KeysField (env_of c.args.env.now)) c.args.keys.now.keys

pub loop-tree-preserved : goal.loop-tree-preserved
loop-tree-preserved c =
    grows_next (KeysField (env_of c.args.env.now)) c.args.trees.now c.loop-tree.tree-index c.tree-item.result c.args.keys.now.keys c.loop-tree.keys.keys c.add_in.new.keys.keys
    c.loop-tree-test.true c.tree-item.is c.loop-tree.invariant c.in_ok-add_in.ensures

pub returns : goal.returns
returns c = grows_whole (KeysField (env_of c.args.env.now)) c.args.trees.now c.loop-tree.tree-index c.args.keys.now.keys c.loop-tree.keys.keys (omega arith) c.loop-tree.invariant
