use Rattle.std.proofs.Common.{ap, arith, get_or}
use Rattle.go_declarations.specs.Listings.{declarations_of}
use Rattle.go_declared.proofs.FilledTables.{forms_next, forms_whole}
use Rattle.go_declared.proofs.filling.fill.Goals as goal

pub loop-number-preserved : goal.loop-number-preserved
loop-number-preserved g c = (
  forms_next g.T.MethodTable.with_method (declarations_of c.args.declarations.now) c.args.table.now c.loop-number.table c.add.new.table c.loop-number.number (get_or c.args.declarations.now c.loop-number.number c.index-declarations-number.result) c.args.declarations.now c.loop-number-test.true
      (ap (get_or c.args.declarations.now c.loop-number.number) c.index-declarations-number.is) c.loop-number.invariant.0 c.in_ok-add.ensures.table,
  c.add.ensures.last,
)

pub returns : goal.returns
returns g c = forms_whole g.T.MethodTable.with_method c.args.table.now c.loop-number.table c.loop-number.number c.args.declarations.now (let h = c.loop-number-test.false in omega (arith, h)) c.loop-number.invariant.0
