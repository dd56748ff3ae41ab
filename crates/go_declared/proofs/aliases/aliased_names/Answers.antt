use Rattle.std.proofs.Common.{ap, get_or}
use Rattle.go_base.specs.Keys.{item_of}
use Rattle.go_declarations.specs.Listings.{declarations_of}
use Rattle.go_declared.proofs.AliasWalks.{aliased_read}
use Rattle.go_declared.proofs.NumberTables.{names_more}
use Rattle.go_declared.specs.AliasEnds.{aliased_at}
use Rattle.go_declared.proofs.aliases.aliased_names.Goals as goal

pub loop-number-preserved : goal.loop-number-preserved
loop-number-preserved c =
    let xs = c.args.declarations.now in
    let i = c.loop-number.number in
    names_more (aliased_at (declarations_of xs)) c.loop-number.names.items c.push.new.self.items c.aliased_by.result i c.loop-number.invariant c.in_ok-push.ensures.items
    (aliased_read xs i (get_or xs i c.index-declarations-number.result) (item_of c.aliased_by.result) c.loop-number-test.true (ap (get_or xs i) c.index-declarations-number.is) c.aliased_by.ensures)
