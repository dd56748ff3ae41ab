use Rattle.std.proofs.Common.{false}
use Rattle.go_declarations.specs.Listings.{declarations_of}
use Rattle.go_met.proofs.SharedNames.{noted_next}
use Rattle.go_met.proofs.shared_names.shared_names.Goals as goal

pub loop-row-preserved : goal.loop-row-preserved
loop-row-preserved c =
    noted_next (declarations_of c.args.declarations.now) c.args.rows.now c.loop-row.row-index (record { number = 0; pointer = false }) c.method_name-name.result.now c.loop-row.seen.keys c.loop-row.shared.keys c.note.new.seen.keys c.note.new.shared.keys
    c.loop-row-test.true c.method_name-name.ensures c.loop-row.invariant c.in_ok-note.ensures.seen c.in_ok-note.ensures.shared
