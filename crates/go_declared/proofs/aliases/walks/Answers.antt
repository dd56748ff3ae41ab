use Rattle.std.proofs.lemmas.Result.{IfOk-weaker}
use Rattle.go_declared.proofs.NumberTables.{stayed}
use Rattle.go_declared.proofs.aliases.walks.Goals as goal

pub returns-then-stays : goal.returns-then-stays
returns-then-stays c = IfOk-weaker c.staying.result _ _ (λ walks are. stayed c.args.numbers.now c.args.times walks.items (c.stays.ensures c.if-stays.true) are) c.staying.ensures
