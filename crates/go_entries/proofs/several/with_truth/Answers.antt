use Rattle.go_entries.proofs.SeveralValues.{map_truth, value_truth}
use Rattle.go_entries.proofs.several.with_truth.Goals as goal

pub returns-in-MapElement : goal.returns-in-MapElement
returns-in-MapElement c = map_truth c.args.told c.args.operand.now c.in-Of.term c.in-MapElement.is c.in-Of.is

pub returns-then-told : goal.returns-then-told
returns-then-told c = value_truth c.args.told c.args.operand.now c.in-Of.term c.in-Plain.is c.in-Of.is c.if-told.true
