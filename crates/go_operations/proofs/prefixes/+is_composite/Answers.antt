use Rattle.std.proofs.Common.{ap, ◌∙◌}
use Rattle.go_rules.specs.Expressions.{composite, composite_array}
use Rattle.go_syntax.specs.declared.expression.Expr.{out-Expr}
use Rattle.go_syntax.specs.declared.expression.Expr.TheVariants.{outs-Composite, outs-CompositeArray, outs-Paren}
use Rattle.go_operators.specs.go_selectors.Answers.{Decides}
use Rattle.go_operations.proofs.Prefixed.{paren_is}
use Rattle.go_operations.proofs.prefixes.+is_composite.Goals as goal

pub returns-in-Composite : goal.returns-in-Composite
returns-in-Composite t c = composite (ap out-Expr c.in-Composite.is ∙ outs-Composite _ _)

pub returns-in-CompositeArray : goal.returns-in-CompositeArray
returns-in-CompositeArray t c = composite_array (ap out-Expr c.in-CompositeArray.is ∙ outs-CompositeArray _ _)

pub returns-in-Paren : goal.returns-in-Paren
returns-in-Paren t c = paren_is c.args.expr.now c.in-Paren.inner c.value.result.now c.is_composite.result (ap out-Expr c.in-Paren.is ∙ outs-Paren _) c.value.ensures c.is_composite.ensures
