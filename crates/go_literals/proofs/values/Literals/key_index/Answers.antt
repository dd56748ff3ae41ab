use Rattle.go_operations.specs.go_type_terms.Answers.{env_in}
use Rattle.go_literals.proofs.Indexing.{key_none, key_some}
use Rattle.go_literals.proofs.Parts.{expr_value_loud}
use Rattle.go_literals.proofs.values.Literals.key_index.Goals as goal

pub returns-in-Some-constant_index : goal.returns-in-Some-constant_index
returns-in-Some-constant_index g c =
    let E = env_in c.args.self.now.operations.typing.context.now in
    (key_some E c.args.key.now c.in-Some.expr.now c.in_ok-operand.operand c.in-Some-constant_index.index c.in-Some.ensures c.in_ok-operand.ensures.0 c.in-Some-constant_index.ensures, expr_value_loud E c.args.key.now c.in-Some.expr.now c.in-Some.ensures c.in_ok-operand.loud c.in_ok-operand.ensures.1)

pub returns : goal.returns
returns g c = key_none (env_in c.args.self.now.operations.typing.context.now) c.args.key.now c.in-Some.expr.now c.in_ok-operand.operand c.in-Some.ensures c.in_ok-operand.ensures.0 c.in-None-constant_index.ensures
