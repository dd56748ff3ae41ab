use Rattle.go_imports.proofs.Cycles.{leads_from}
use Rattle.go_imports.proofs.OneOrder.{canonical_acyclic}
use Rattle.go_imports.proofs.laws.ordered_without_cycle.Goals as goal

pub returns : goal.returns
returns c graph order n p on = canonical_acyclic graph order n p (leads_from graph on) on
