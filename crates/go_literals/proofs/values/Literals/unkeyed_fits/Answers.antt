use Rattle.std.proofs.Common.{◌∷◌, [], false}
use Rattle.go_model.specs.declared.types.term.Field.{out-Field}
use Rattle.go_rules.specs.Nodes.{expression}
use Rattle.go_syntax.specs.declared.expression.Element.{out-Element}
use Rattle.go_operations.specs.go_type_terms.Answers.{env_in}
use Rattle.go_literals.specs.Elements.{ExprFits, UnkeyedFits, parts_of}
use Rattle.go_literals.proofs.KeyedFields.{in_unkeyed, to_unkeyed}
use Rattle.go_literals.proofs.Parts.{element_loud, expr_value_loud, holds_as, no_key_loud}
use Rattle.go_literals.proofs.values.Literals.unkeyed_fits.Goals as goal

pub returns : goal.returns
returns g c =
    let E = env_in c.args.self.now.operations.typing.context.now in
    let x = c.args.element.now in
    let f = c.args.field.now in
    let e = c.in-Some.expr.now in
    holds_as E (ExprFits E (out-Field f).term e) (UnkeyedFits E f x) (expression e ∷ []) (parts_of x) c.expr_fits.result
    (λ h. to_unkeyed E f x e c.if-not-is_without_key.ensures c.in-Some.ensures h c.if-not-is_reachable.ensures) (in_unkeyed E f x e c.in-Some.ensures)
    (λ b l. element_loud E x false b (no_key_loud E x c.if-not-is_without_key.ensures) (expr_value_loud E (out-Element x).value e c.in-Some.ensures b l)) c.expr_fits.ensures
