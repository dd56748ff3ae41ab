use Rattle.std.proofs.Common.{false, refl}
use Rattle.go_base.specs.Lists.{Has}
use Rattle.go_declarations.specs.Listings.{declarations_of}
use Rattle.go_met.proofs.ToldBases.{told_next}
use Rattle.go_met.proofs.bases.tell_rows.Goals as goal

pub loop-row-preserved : goal.loop-row-preserved
loop-row-preserved c =
    told_next (declarations_of c.args.declarations.now) (Has c.args.shared.now.keys) c.args.name.now c.args.rows.now c.loop-row.row-index (record { number = 0; pointer = false }) c.args.told.now.items c.loop-row.told.items c.tell.new.told.items
    c.method_name.result.now (record { name = c.args.name; is_only = c.in_ok-is_only.is_only }) c.loop-row-test.true c.loop-row.invariant refl c.method_name.ensures c.in_ok-is_only.ensures c.tell.ensures
