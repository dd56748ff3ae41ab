use Rattle.go_selectors.proofs.Counting.{set_listed}
use Rattle.go_selectors.proofs.lookup.Lookup.method_set.Goals as goal

pub returns : goal.returns
returns g c = set_listed (g.T.TypeTable.lookup c.args.self.now.table.now) c.args.term.now c.in_ok-callable.callable c.in_ok-methods.methods c.in_ok-callable.ensures c.in_ok-methods.ensures
