use Rattle.go_literals.proofs.FieldTables.{puts_insert}
use Rattle.go_literals.proofs.field_tables.put.Goals as goal

pub returns : goal.returns
returns c = puts_insert c.args.table.now c.insert.new.self c.in_ok-sel.sel c.args.field c.in_ok-sel.ensures c.in_ok-insert.ensures.updates
