use Rattle.go_types.proofs.Called.{set_decided}
use Rattle.go_types.proofs.implementing.has_methods.Goals as goal

pub returns : goal.returns
returns g c = set_decided (g.T.TypeTable.lookup c.args.types.now.table.now) c.args.term.now c.in_ok-callable.callable c.args.methods.now c.are_candidates-has.result c.in_ok-callable.ensures c.are_candidates-has.ensures
