use Rattle.go_types.proofs.Called.{decided}
use Rattle.go_types.proofs.implementing.has_method.Goals as goal

pub returns : goal.returns
returns g c = decided (g.T.TypeTable.lookup c.args.types.now.table.now) c.args.method.now.sel c.args.term.now c.in_ok-found.found c.args.method.now.signature c.is_called-called.result c.in_ok-found.ensures c.is_called-called.ensures
