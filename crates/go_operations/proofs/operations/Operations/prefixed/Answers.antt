use Rattle.go_type_terms.specs.Answers.{env_in}
use Rattle.go_operators.proofs.Answers.{found_none, found_some}
use Rattle.go_operators.specs.Prefixes.{Prefixes}
use Rattle.go_operations.proofs.Prefixed.{no_prefix, to_prefix}
use Rattle.go_operations.proofs.operations.Operations.prefixed.Goals as goal

pub returns-in-Some : goal.returns-in-Some
returns-in-Some g c =
    let E = env_in c.args.self.now.typing.context.now in (
      to_prefix E c.args.expr.now c.is_composite-composite.result c.is_composite-composite.ensures c.args.operator c.in_ok-operand.operand c.in-Some.result c.in_ok-operand.ensures.0
          (found_some (Prefixes E c.args.operator c.is_composite-composite.result c.in_ok-operand.operand) c.in_ok-result.field-0 c.in-Some.result c.in-Some.is c.in_ok-result.ensures),
      c.in_ok-operand.ensures.1,
    )

pub returns : goal.returns
returns g c =
    let E = env_in c.args.self.now.typing.context.now in
    no_prefix E c.args.expr.now c.is_composite-composite.result c.is_composite-composite.ensures c.args.operator c.in_ok-operand.operand c.in_ok-operand.ensures.0
    (found_none (Prefixes E c.args.operator c.is_composite-composite.result c.in_ok-operand.operand) c.in_ok-result.field-0 c.in-None.is c.in_ok-result.ensures)
