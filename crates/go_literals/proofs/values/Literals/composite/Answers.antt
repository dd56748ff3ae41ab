use Rattle.std.proofs.Common.{◌∷◌, [], Bool, sym, subst}
use Rattle.go_rules.specs.Expressions.{HasElements, HasForm}
use Rattle.go_rules.specs.Nodes.{element_parts, type as type_node}
use Rattle.go_syntax.specs.declared.expression.Expr.{Expr-F}
use Rattle.go_operations.specs.go_type_terms.Answers.{env_in}
use Rattle.go_operations.specs.go_type_terms.Loudness.{AreLoud}
use Rattle.go_operations.proofs.go_type_terms_proofs.LoudTrees.{join_loud}
use Rattle.go_literals.proofs.Composing.{in_composite, to_composite}
use Rattle.go_literals.proofs.Parts.{held_typed}
use Rattle.go_literals.proofs.values.Literals.composite.Goals as goal

pub returns-in_err-louder : goal.returns-in_err-louder
returns-in_err-louder g c =
    let E = env_in c.args.self.now.operations.typing.context.now in
    let xs = c.args.elements.now in
    held_typed E (HasElements E c.in_ok-term.term xs) (HasForm E (Expr-F.Composite c.args.form.now xs)) (element_parts xs) (type_node c.args.form.now ∷ element_parts xs) c.in_err-louder.field-0.0 c.from_residual-in_err-louder.result c.from_residual-in_err-louder.ensures.1 c.in_err-louder.ensures
    (λ o h. in_composite E c.in_ok-term.ensures.0 h)

pub returns : goal.returns
returns g c =
    let E = env_in c.args.self.now.operations.typing.context.now in
    let xs = c.args.elements.now in (
      to_composite E c.args.form.now xs c.in_ok-term.term c.plain.result c.in_ok-term.ensures.0 c.in_ok-louder.ensures.0 c.plain.ensures,
      subst (λ (b : Bool). AreLoud E (type_node c.args.form.now ∷ element_parts xs) b) (sym c.either.ensures) (join_loud E (type_node c.args.form.now ∷ []) (element_parts xs) c.in_ok-term.loud c.in_ok-louder.louder c.in_ok-term.ensures.1 c.in_ok-louder.ensures.1),
    )
