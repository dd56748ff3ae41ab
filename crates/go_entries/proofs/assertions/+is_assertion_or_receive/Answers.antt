use Rattle.std.proofs.Common.{ap, ◌∙◌}
use Rattle.go_syntax.specs.declared.expression.Expr.{out-Expr}
use Rattle.go_syntax.specs.declared.expression.Expr.TheVariants.{outs-Paren, outs-Prefix, outs-Primary}
use Rattle.go_entries.proofs.AssertionForms.{paren_decided, prefix_decided, primary_decided}
use Rattle.go_entries.proofs.assertions.+is_assertion_or_receive.Goals as goal

pub returns-in-Prefix : goal.returns-in-Prefix
returns-in-Prefix t c =
    let k = c.in-Prefix in
    prefix_decided c.args.expr.now k.field-1 k.operator c.is_receive.result (ap out-Expr k.is ∙ outs-Prefix k.operator k.field-1) c.is_receive.ensures

pub returns-in-Primary : goal.returns-in-Primary
returns-in-Primary t c =
    let k = c.in-Primary in
    primary_decided c.args.expr.now k.field-0 k.posts c.items.result.now c.ends_in_assertion.result (ap out-Expr k.is ∙ outs-Primary k.field-0 k.posts) c.items.ensures c.ends_in_assertion.ensures

pub returns-in-Paren : goal.returns-in-Paren
returns-in-Paren t c =
    paren_decided c.args.expr.now c.in-Paren.inner c.value.result.now c.is_assertion_or_receive.result (ap out-Expr c.in-Paren.is ∙ outs-Paren c.in-Paren.inner) c.value.ensures c.is_assertion_or_receive.ensures
