use Rattle.std.proofs.Common.{ap, arith, get_or}
use Rattle.go_declared.proofs.Declared.{declarations_next, declarations_whole}
use Rattle.go_declared.proofs.names.collected.Goals as goal

pub loop-number-preserved : goal.loop-number-preserved
loop-number-preserved c =
    declarations_next c.loop-number.entries.items c.add_form.new.entries.items c.loop-number.number (get_or c.args.declarations.now c.loop-number.number c.index-declarations-number.result) c.args.declarations.now c.loop-number-test.true (ap (get_or c.args.declarations.now c.loop-number.number) c.index-declarations-number.is) c.loop-number.invariant
    c.in_ok-add_form.ensures

pub returns : goal.returns
returns c = declarations_whole c.loop-number.entries.items c.loop-number.number c.args.declarations.now (let h = c.loop-number-test.false in omega (arith, h)) c.loop-number.invariant
