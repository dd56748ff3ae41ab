use Rattle.std.proofs.Common.{ap, ◌∙◌}
use Rattle.go_syntax.specs.declared.expression.Expr.{out-Expr}
use Rattle.go_syntax.specs.declared.expression.Expr.TheVariants.{outs-Name, outs-Paren}
use Rattle.go_assignments.proofs.SideForms.{name_decided, paren_decided}
use Rattle.go_assignments.proofs.sides.+is_blank_side.Goals as goal

pub returns-in-Name : goal.returns-in-Name
returns-in-Name t c = name_decided c.args.expr.now c.in-Name.name c.bytes.result.now c.is_blank.result (ap out-Expr c.in-Name.is ∙ outs-Name c.in-Name.name) c.bytes.ensures c.is_blank.ensures

pub returns-in-Paren : goal.returns-in-Paren
returns-in-Paren t c = paren_decided c.args.expr.now c.in-Paren.inner c.value.result.now c.is_blank_side.result (ap out-Expr c.in-Paren.is ∙ outs-Paren c.in-Paren.inner) c.value.ensures c.is_blank_side.ensures
