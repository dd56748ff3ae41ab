use Rattle.go_operators.proofs.Changing.{address_gives, address_nothing}
use Rattle.go_operators.proofs.prefixes.address.Goals as goal

pub returns-in_ok-pointer-in-Some : goal.returns-in_ok-pointer-in-Some
returns-in_ok-pointer-in-Some c = address_gives c.args.composite c.args.operand.now _ _ _ c.in-Some.ensures c.in_ok-pointer-in-Some.ensures c.plain.ensures

pub returns-in-None : goal.returns-in-None
returns-in-None c = address_nothing c.args.composite c.args.operand.now c.in-None.ensures
