use Rattle.std.proofs.Common.{◌∷◌, [], true, false, sym, subst}
use Rattle.go_model.specs.declared.types.term.Direction.TheVariants as direction
use Rattle.go_model.specs.types.Bounds.{IsWithinBounds}
use Rattle.go_rules.specs.Expressions.{Has}
use Rattle.go_rules.specs.Nodes.{type as type_node}
use Rattle.go_literals.specs.go_type_terms.Answers.{env_in}
use Rattle.go_literals.specs.go_type_terms.Results.{IsChannelOf}
use Rattle.go_literals.proofs.go_type_terms_proofs.Handed.{handed}
use Rattle.go_expr.specs.Arguments.{receive_type}
use Rattle.go_expr.proofs.Arguing.{in_receive_type, receive_type_out, to_receive_type}
use Rattle.go_expr.proofs.Bounding.{decides}
use Rattle.go_expr.proofs.exprs.Exprs.receive_type.Goals as goal

pub returns-in_err-term : goal.returns-in_err-term
returns-in_err-term g c =
    let E = env_in c.args.self.now.literals.operations.typing.context.now in
    let t = c.args.element.now in
    handed E (IsChannelOf E direction.ReceiveOnly t) (Has E (receive_type t)) (type_node t ∷ []) (type_node t ∷ []) c.in_err-term.field-0.0 c.from_residual.result c.from_residual.ensures.1 c.in_err-term.ensures
    (λ o h. let y = in_receive_type E t o h in (y.0, y.1))

pub returns-then-not-is_within_bounds : goal.returns-then-not-is_within_bounds
returns-then-not-is_within_bounds g c = receive_type_out (env_in c.args.self.now.literals.operations.typing.context.now) c.args.element.now c.in_ok-term.term c.in_ok-term.ensures.0 (decides (IsWithinBounds c.in_ok-term.term) false c.if-not-is_within_bounds.ensures)

pub returns : goal.returns
returns g c =
    let E = env_in c.args.self.now.literals.operations.typing.context.now in
    let t = c.args.element.now in
    (subst (Has E (receive_type t)) (sym c.type_name.ensures) (to_receive_type E t c.in_ok-term.term c.in_ok-term.ensures.0 (decides (IsWithinBounds c.in_ok-term.term) true c.if-not-is_within_bounds.ensures)), c.in_ok-term.ensures.1)
