use Rattle.std.proofs.Common.{ap, get_or}
use Rattle.go_graphs.proofs.TurnedRows.{added_row_at}
use Rattle.go_graphs.proofs.rows.add_to_row.Goals as goal

pub returns-in_ok-push : goal.returns-in_ok-push
returns-in_ok-push c n m h =
    added_row_at c.args.rows.now c.args.target c.args.source (get_or c.args.rows.now c.args.target c.index-rows-place.result) c.push.new.self c.if-place-rows.true (ap (get_or c.args.rows.now c.args.target) c.index-rows-place.is) c.in_ok-push.ensures.ok n m h
