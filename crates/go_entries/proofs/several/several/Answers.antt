use Rattle.go_entries.proofs.SeveralValues.{told_results, told_truth}
use Rattle.go_entries.proofs.several.several.Goals as goal

pub returns-in-Some : goal.returns-in-Some
returns-in-Some c = told_results c.args.count c.args.told c.args.operand.now c.by_results.result c.in-Some.terms.now c.items.result.now c.in-Some.ensures c.items.ensures c.by_results.ensures

pub returns-in-None : goal.returns-in-None
returns-in-None c = told_truth c.args.count c.args.told c.args.operand.now c.by_truth.result c.in-None.ensures c.by_truth.ensures
