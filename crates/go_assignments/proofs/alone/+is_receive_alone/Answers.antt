use Rattle.std.proofs.Common.{ap, ◌∙◌}
use Rattle.go_syntax.specs.declared.expression.Expr.{out-Expr}
use Rattle.go_syntax.specs.declared.expression.Expr.TheVariants.{outs-Paren, outs-Prefix}
use Rattle.go_assignments.proofs.Calls.{paren_decided, prefix_decided}
use Rattle.go_assignments.proofs.alone.+is_receive_alone.Goals as goal

pub returns-in-Prefix : goal.returns-in-Prefix
returns-in-Prefix t c =
    let k = c.in-Prefix in
    prefix_decided c.args.expr.now k.field-1 k.operator c.is_receive.result (ap out-Expr k.is ∙ outs-Prefix k.operator k.field-1) c.is_receive.ensures

pub returns-in-Paren : goal.returns-in-Paren
returns-in-Paren t c =
    paren_decided c.args.expr.now c.in-Paren.inner c.value.result.now c.is_receive_alone.result (ap out-Expr c.in-Paren.is ∙ outs-Paren c.in-Paren.inner) c.value.ensures c.is_receive_alone.ensures
