use Rattle.std.proofs.Common.{arith}
use Rattle.go_imports.proofs.GrowingSets.{grows_next, grows_none, grows_whole}
use Rattle.go_declaration_graph.specs.inner.FieldKeys.{IsKeyOf}
use Rattle.go_declaration_graph.proofs.field_keys.add_all.Goals as goal

pub loop-name-init : goal.loop-name-init
loop-name-init c = grows_none IsKeyOf c.args.keys.now.keys

pub loop-name-preserved : goal.loop-name-preserved
loop-name-preserved c =
    grows_next IsKeyOf c.args.names.now c.loop-name.name-index c.name-item.result c.args.keys.now.keys c.loop-name.keys.keys c.add.new.keys.keys
    c.loop-name-test.true c.name-item.is c.loop-name.invariant c.in_ok-add.ensures

pub returns : goal.returns
returns c = grows_whole IsKeyOf c.args.names.now c.loop-name.name-index c.args.keys.now.keys c.loop-name.keys.keys (omega arith) c.loop-name.invariant
