use Rattle.go_imports.proofs.OneOrder.{one_canonical}
use Rattle.go_imports.proofs.laws.one_order.Goals as goal

pub returns : goal.returns
returns c graph a b p q = one_canonical graph a b p q
