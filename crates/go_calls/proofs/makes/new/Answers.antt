use Rattle.go_calls.proofs.Making.{new_nothing, new_like}
use Rattle.go_calls.proofs.makes.new.Goals as goal

pub returns-in_ok-pointer_to-in-Some : goal.returns-in_ok-pointer_to-in-Some
returns-in_ok-pointer_to-in-Some c = new_like c.args.operand.now _ _ _ c.in-Some.ensures c.in_ok-pointer_to-in-Some.ensures c.plain.ensures

pub returns-in-None : goal.returns-in-None
returns-in-None c = new_nothing c.args.operand.now c.in-None.ensures
