use Rattle.std.proofs.Common.{arith}
use Rattle.go_nodes.proofs.EachItems.{each_done, each_next, each_not}
use Rattle.go_rules.specs.Asks.{Meets}
use Rattle.go_rules.specs.Nodes.{expression}
use Rattle.go_syntax.specs.declared.expression.Expr.{Expr}
use Rattle.go_type_terms.specs.Answers.{env_in}
use Rattle.go_assignments.proofs.sides.are_met.Goals as goal

pub returns-then-not-branch : goal.returns-then-not-branch
returns-then-not-branch c = each_not (λ (e : Expr). Meets (env_in c.args.context.now) (expression e)) c.args.exprs.now c.loop-expr.expr-index c.expr-item.result c.loop-expr-test.true c.expr-item.is c.loop-expr.invariant c.in_ok-meets.field-0 c.if-not-branch.true c.in_ok-meets.ensures

pub loop-expr-preserved : goal.loop-expr-preserved
loop-expr-preserved c = each_next (λ (e : Expr). Meets (env_in c.args.context.now) (expression e)) c.args.exprs.now c.loop-expr.expr-index c.expr-item.result c.loop-expr-test.true c.expr-item.is c.loop-expr.invariant c.in_ok-meets.field-0 c.if-not-branch.false c.in_ok-meets.ensures

pub returns : goal.returns
returns c = each_done (λ (e : Expr). Meets (env_in c.args.context.now) (expression e)) c.args.exprs.now c.loop-expr.expr-index (omega arith) c.loop-expr.invariant
