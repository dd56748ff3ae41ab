use Rattle.std.proofs.Common.{◌∷◌, [], Bool, None, sym, subst}
use Rattle.go_rules.specs.Expressions.{HasForm, HasIndexed}
use Rattle.go_rules.specs.Nodes.{element_parts, type as type_node}
use Rattle.go_syntax.specs.declared.expression.Expr.{Expr-F}
use Rattle.go_operations.specs.go_type_terms.Answers.{env_in}
use Rattle.go_operations.specs.go_type_terms.Loudness.{AreLoud}
use Rattle.go_operations.proofs.go_type_terms_proofs.Handed.{handed}
use Rattle.go_operations.proofs.go_type_terms_proofs.LoudTrees.{join_loud}
use Rattle.go_literals.proofs.Composing.{in_array, to_array}
use Rattle.go_literals.proofs.values.Literals.composite_array.Goals as goal

pub returns-in_err-length : goal.returns-in_err-length
returns-in_err-length g c =
    let E = env_in c.args.self.now.operations.typing.context.now in
    let xs = c.args.elements.now in
    handed E (HasIndexed E c.value.result.now None 0 xs) (HasForm E (Expr-F.CompositeArray c.args.form.now xs)) (element_parts xs) (type_node c.args.form.now ∷ element_parts xs) c.in_err-length.field-0.0 c.from_residual-in_err-length.result c.from_residual-in_err-length.ensures.1 c.in_err-length.ensures
    (in_array E c.args.form.now xs c.in_ok-element.element c.value.result.now c.in_ok-element.ensures.0 c.value.ensures)

pub returns : goal.returns
returns g c =
    let E = env_in c.args.self.now.operations.typing.context.now in
    let xs = c.args.elements.now in (
      to_array E c.args.form.now xs c.in_ok-element.element c.value.result.now c.in_ok-length.length c.plain.result c.in_ok-element.ensures.0 c.value.ensures c.in_ok-length.ensures.0 c.plain.ensures,
      subst (λ (b : Bool). AreLoud E (type_node c.args.form.now ∷ element_parts xs) b) (sym c.either.ensures) (join_loud E (type_node c.args.form.now ∷ []) (element_parts xs) c.in_ok-element.loud c.in_ok-length.louder c.in_ok-element.ensures.1 c.in_ok-length.ensures.1),
    )
