use Rattle.go_taken_packages.proofs.WorldsInOrder.{in_order}
use Rattle.go_taken_packages.proofs.laws.worlds_in_order.Goals as goal

pub returns : goal.returns
returns c = λ bits us w i. in_order bits us w i
