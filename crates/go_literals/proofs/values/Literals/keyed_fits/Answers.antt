use Rattle.std.proofs.Common.{◌∷◌, [], false}
use Rattle.go_rules.specs.Nodes.{expression}
use Rattle.go_syntax.specs.declared.expression.Element.{out-Element}
use Rattle.go_operations.specs.go_type_terms.Answers.{env_in}
use Rattle.go_literals.specs.Elements.{KeyedFits, NamedFits, parts_of}
use Rattle.go_literals.proofs.KeyedFields.{in_keyed_fits, to_keyed_fits}
use Rattle.go_literals.proofs.Parts.{element_loud, expr_value_loud, holds_as, key_quiet}
use Rattle.go_literals.proofs.values.Literals.keyed_fits.Goals as goal

pub returns : goal.returns
returns g c =
    let E = env_in c.args.self.now.operations.typing.context.now in
    let x = c.args.element.now in
    let n = c.in-Some.name.now in
    let e = c.in-Some-expr_alone.expr.now in
    holds_as E (NamedFits E c.args.fields.now n e) (KeyedFits E c.args.fields.now x) (expression e ∷ []) (parts_of x) c.named_fits.result
    (to_keyed_fits E c.args.fields.now x n e c.in-Some.ensures c.in-Some-expr_alone.ensures) (in_keyed_fits E c.args.fields.now x n e c.in-Some.ensures c.in-Some-expr_alone.ensures)
    (λ b l. element_loud E x false b (key_quiet E c.in-Some.ensures) (expr_value_loud E (out-Element x).value e c.in-Some-expr_alone.ensures b l)) c.named_fits.ensures
