use Rattle.std.proofs.Common.{arith}
use Rattle.go_base.specs.Lists.{Has}
use Rattle.go_imports.specs.UsedImports.{IsTypeName}
use Rattle.go_imports.proofs.GrowingSets.{grows_next_where, grows_whole_where}
use Rattle.go_imports.proofs.used_imports.add_types.Goals as goal

pub loop-spec-preserved : goal.loop-spec-preserved
loop-spec-preserved c =
    grows_next_where IsTypeName (Has c.args.asked.now.keys) c.args.specs.now c.loop-spec.spec-index c.spec-item.result _ c.loop-spec.set.keys c.add_asked.new.set.keys
    c.loop-spec-test.true c.spec-item.is c.loop-spec.invariant c.in_ok-add_asked.ensures

pub returns : goal.returns
returns c = grows_whole_where IsTypeName (Has c.args.asked.now.keys) c.args.specs.now c.loop-spec.spec-index c.args.set.now.keys c.loop-spec.set.keys (omega arith) c.loop-spec.invariant
