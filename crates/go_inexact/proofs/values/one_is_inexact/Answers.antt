use Rattle.std.proofs.Common.{arith}
use Rattle.go_inexact.proofs.ValuesDecided.{one_begins, one_found, one_next, one_none}
use Rattle.go_type_terms.specs.Answers.{env_in}
use Rattle.go_inexact.proofs.values.one_is_inexact.Goals as goal

pub loop-expr-init : goal.loop-expr-init
loop-expr-init c = one_begins (env_in c.args.context.now) c.args.exprs.now

pub loop-expr-preserved : goal.loop-expr-preserved
loop-expr-preserved c =
    one_next (env_in c.args.context.now) c.args.exprs.now c.loop-expr.expr-index c.loop-expr.invariant c.expr-item.result c.loop-expr-test.true c.expr-item.is c.in_ok-holds.holds c.if-holds.false c.in_ok-holds.ensures

pub returns-then-holds : goal.returns-then-holds
returns-then-holds c =
    one_found (env_in c.args.context.now) c.args.exprs.now c.loop-expr.expr-index c.loop-expr.invariant c.expr-item.result c.loop-expr-test.true c.expr-item.is c.in_ok-holds.holds c.if-holds.true c.in_ok-holds.ensures

pub returns : goal.returns
returns c = one_none (env_in c.args.context.now) c.args.exprs.now c.loop-expr.expr-index c.loop-expr.invariant (omega arith)
