use Rattle.std.proofs.Common.{◌∷◌, ap, ◌∙◌, Some, None}
use Rattle.atomic_table.specs.Table.{rest}
use Rattle.work_sharing.proofs.Fills.{fill_at, held}
use Rattle.work_sharing.proofs.table.ResultTable.fill.Goals as goal

pub exchange-none-requires : goal.exchange-none-requires
exchange-none-requires g c = (c.requires.table, (None, held _ _ c.requires.held.0))

pub store-requires : goal.store-requires
store-requires g c =
    let shared = c.args.self.now.table.shared in
    let e = c.exchange-none.ensures in (
      e.0 ∙ c.requires.table,
      c.requires.row,
      fill_at _ shared.table_id.slots shared.table_id.words c.exchange-none.new.seat.id c.exchange-none.new.seat.me.0 c.exchange-none.new.seat.me.1 c.args.row c.args.value
          (ap (λ m. m.1) e.3 ∙ ap (λ l. (c.args.row, Some c.args.value) ∷ rest l) c.requires.held.0)
          c.requires.row c.args.self.now.sized (rw (ap (λ m. m.0) e.3) c.requires.held.1) c.requires.right,
    )
