use Rattle.std.proofs.Common.{[], ◌∷◌, ap, ◌∙◌, sym}
use Rattle.go_model.specs.types.Underlying.{under}
use Rattle.go_rules.specs.Expressions.{ElementFits}
use Rattle.go_rules.specs.Nodes.{element_parts, expression, value as value_node}
use Rattle.go_syntax.specs.declared.expression.ElementValue.{ElementValue-F, out-ElementValue}
use Rattle.go_syntax.specs.declared.expression.ElementValue.TheVariants.{outs-Literal, outs-Value}
use Rattle.go_operations.specs.go_type_terms.Answers.{env_in}
use Rattle.go_literals.specs.Elements.{BareFits, ExprFits}
use Rattle.go_literals.proofs.ElementValues.{in_bare, in_value, to_bare, to_value}
use Rattle.go_literals.proofs.Parts.{bare_value_loud, expr_value_loud, holds_as}
use Rattle.go_literals.proofs.values.Literals.element_fits.Goals as goal

pub returns-in-Value : goal.returns-in-Value
returns-in-Value g c =
    let E = env_in c.args.self.now.operations.typing.context.now in
    let i = ap out-ElementValue c.in-Value.is ∙ outs-Value c.in-Value.expr in
    holds_as E (ExprFits E c.args.term.now c.in-Value.expr) (ElementFits E c.args.term.now c.args.value.now) (expression c.in-Value.expr ∷ []) (value_node c.args.value.now ∷ []) c.expr_fits.result
    (to_value E c.args.term.now c.args.value.now c.in-Value.expr i) (in_value E i) (expr_value_loud E c.args.value.now c.in-Value.expr i) c.expr_fits.ensures

pub returns-in-Literal : goal.returns-in-Literal
returns-in-Literal g c =
    let E = env_in c.args.self.now.operations.typing.context.now in
    let xs = c.items.result.now in
    let i = ap out-ElementValue c.in-Literal.is ∙ outs-Literal c.in-Literal.elements ∙ ap ElementValue-F.«ElementValue::Literal» (sym c.items.ensures) in
    holds_as E (BareFits E c.args.term.now (under E.table c.args.term.now) xs) (ElementFits E c.args.term.now c.args.value.now) (element_parts xs) (value_node c.args.value.now ∷ []) c.bare_fits.result
    (to_bare E c.args.term.now c.args.value.now xs i) (in_bare E i) (bare_value_loud E c.args.value.now xs i) c.bare_fits.ensures
