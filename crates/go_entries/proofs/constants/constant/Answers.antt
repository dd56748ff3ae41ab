use Rattle.std.proofs.Common.{ap}
use Rattle.go_base.specs.Keys.{item_of}
use Rattle.go_type_terms.specs.Answers.{env_in}
use Rattle.go_entries.proofs.ConstantSpecs.{told_own, told_typed}
use Rattle.go_entries.proofs.constants.constant.Goals as goal

pub returns-in-Some : goal.returns-in-Some
returns-in-Some c = told_typed (env_in c.args.context.now) c.args.value.now c.in_ok-operand.operand c.in_ok-operand.ensures c.typed_constant.result (item_of c.args.given) c.in-Some.term.now (ap item_of c.in-Some.is) c.typed_constant.ensures

pub returns : goal.returns
returns c = told_own (env_in c.args.context.now) c.args.value.now c.in_ok-operand.operand c.in_ok-operand.ensures c.own_constant.result (item_of c.args.given) (ap item_of c.in-None.is) c.own_constant.ensures
