use Rattle.std.proofs.Common.{◌∷◌, [], ◌++◌, map, Bool, ap, ◌∙◌, sym, subst}
use Rattle.go_rules.specs.Expressions.{HasEach}
use Rattle.go_rules.specs.Nodes.{expression, type as type_node}
use Rattle.go_literals.specs.go_type_terms.Answers.{env_in}
use Rattle.go_literals.specs.go_type_terms.Loudness.{AreLoud}
use Rattle.go_literals.proofs.go_type_terms_proofs.Handed.{handed}
use Rattle.go_literals.proofs.go_type_terms_proofs.LoudTrees.{join_loud}
use Rattle.go_expr.specs.Arguments.{HasEachAfter, receive_type}
use Rattle.go_expr.proofs.Arguing.{in_each_after, to_each_after}
use Rattle.go_expr.proofs.exprs.Exprs.arguments_after_type.Goals as goal

pub returns-in_err-operands : goal.returns-in_err-operands
returns-in_err-operands g c =
    let E = env_in c.args.self.now.literals.operations.typing.context.now in
    let t = c.args.element.now in
    let es = c.args.exprs.now in
    let i = c.in_ok-push.ensures.ok ∙ ap (λ xs. xs ++ c.in_ok-first.first ∷ []) c.new-before.ensures in
    handed E (HasEachAfter E c.push.new.self es) (HasEach E (receive_type t ∷ es)) (map expression es) (type_node t ∷ map expression es) c.in_err-operands.field-0.0 c.from_residual-in_err-operands.result c.from_residual-in_err-operands.ensures.1 c.in_err-operands.ensures
    (in_each_after E (receive_type t) es c.in_ok-first.first c.push.new.self i c.in_ok-first.ensures.0)

pub returns : goal.returns
returns g c =
    let E = env_in c.args.self.now.literals.operations.typing.context.now in
    let t = c.args.element.now in
    let es = c.args.exprs.now in
    let i = c.in_ok-push.ensures.ok ∙ ap (λ xs. xs ++ c.in_ok-first.first ∷ []) c.new-before.ensures in (
      to_each_after E (receive_type t) es c.in_ok-first.first c.push.new.self c.in_ok-operands.operands i c.in_ok-first.ensures.0 c.in_ok-operands.ensures.0,
      subst (λ (b : Bool). AreLoud E (type_node t ∷ map expression es) b) (sym c.either.ensures) (join_loud E (type_node t ∷ []) (map expression es) c.in_ok-first.loud c.in_ok-operands.louder c.in_ok-first.ensures.1 c.in_ok-operands.ensures.1),
    )
