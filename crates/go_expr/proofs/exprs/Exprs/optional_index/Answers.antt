use Rattle.std.proofs.Common.{ap, ◌∙◌, sym, Some}
use Rattle.go_literals.specs.go_type_terms.Answers.{env_in}
use Rattle.go_expr.proofs.Slicing.{left_out, stands}
use Rattle.go_expr.proofs.exprs.Exprs.optional_index.Goals as goal

pub returns-in_ok-operand-in-Some : goal.returns-in_ok-operand-in-Some
returns-in_ok-operand-in-Some g c = stands (env_in c.args.self.now.literals.operations.typing.context.now) c.args.expr.now c.value.result.now c.in_ok-operand-in-Some.operand c.in_ok-operand-in-Some.loud (c.in-Some.is ∙ ap Some (sym c.value.ensures)) c.in_ok-operand-in-Some.ensures.0 c.in_ok-operand-in-Some.ensures.1

pub returns-in-None : goal.returns-in-None
returns-in-None g c = left_out (env_in c.args.self.now.literals.operations.typing.context.now) c.args.expr.now c.in-None.is
