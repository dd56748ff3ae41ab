use Rattle.std.proofs.Common.{[], ◌∷◌}
use Rattle.go_model.specs.declared.types.term.Direction.TheVariants as direction
use Rattle.go_rules.specs.Expressions.{HasForm}
use Rattle.go_rules.specs.Nodes.{type as type_node}
use Rattle.go_syntax.specs.declared.expression.Expr.{Expr-F}
use Rattle.go_type_terms.specs.Answers.{env_in}
use Rattle.go_type_terms.specs.Results.{IsChannelOf}
use Rattle.go_type_terms.proofs.Handed.{handed}
use Rattle.go_operations.proofs.TypeOperands.{in_channel, to_channel}
use Rattle.go_operations.proofs.operations.Operations.channel_operand.Goals as goal

pub returns-in_err-term : goal.returns-in_err-term
returns-in_err-term g c =
    let E = env_in c.args.self.now.typing.context.now in
    handed E (IsChannelOf E direction.ReceiveOnly c.args.element.now) (HasForm E (Expr-F.ParenReceiveChan c.args.element.now)) (type_node c.args.element.now ∷ []) (type_node c.args.element.now ∷ []) c.in_err-term.field-0.0 c.from_residual.result c.from_residual.ensures.1 c.in_err-term.ensures (λ o h. in_channel E h)

pub returns : goal.returns
returns g c = (to_channel (env_in c.args.self.now.typing.context.now) c.args.element.now c.in_ok-term.term c.type_name.result c.in_ok-term.ensures.0 c.type_name.ensures, c.in_ok-term.ensures.1)
