use Rattle.std.proofs.Common.{arith}
use Rattle.go_met.proofs.BasesOfAll.{bases_next, bases_past}
use Rattle.go_met.proofs.bases.bases.Goals as goal

pub loop-number-preserved : goal.loop-number-preserved
loop-number-preserved c = bases_next c.args.tables.now.declarations.now c.args.tables.now.names.now c.args.tables.now.methods.now c.loop-number.number c.index-tables-number.result c.loop-number.told.items c.tell_form.new.told.items c.loop-number-test.true c.loop-number.invariant c.in_ok-tell_form.ensures

pub returns : goal.returns
returns c = bases_past c.args.tables.now.declarations.now c.args.tables.now.names.now c.args.tables.now.methods.now c.loop-number.number c.loop-number.told.items (let h = c.loop-number-test.false in let k = c.loop-number.auto.number-end in omega (arith, h, k)) c.requires.names c.requires.methods c.loop-number.invariant
