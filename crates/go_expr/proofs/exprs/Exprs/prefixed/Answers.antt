use Rattle.std.proofs.Common.{◌∷◌, [], Bool, sym, subst}
use Rattle.go_rules.specs.Nodes.{expression}
use Rattle.go_literals.specs.go_type_terms.Answers.{env_in}
use Rattle.go_literals.specs.go_type_terms.Loudness.{AreLoud}
use Rattle.go_literals.proofs.go_operations_proofs.LoudForms.{prefix_loud}
use Rattle.go_expr.proofs.exprs.Exprs.prefixed.Goals as goal

pub returns : goal.returns
returns g c =
    let E = env_in c.args.self.now.literals.operations.typing.context.now in
    λ e i. (c.in_ok-result.ensures.0, subst (λ (b : Bool). AreLoud E (expression e ∷ []) b) (sym c.either.ensures) (prefix_loud E e c.args.operand.now c.args.operator c.is_receive.result c.is_receive.ensures i c.in_ok-result.loud c.in_ok-result.ensures.1))
