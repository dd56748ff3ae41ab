use Rattle.go_exposed.specs.BeyondProfile.{IsValueOf}
use Rattle.go_nodes.proofs.EachItems.{each_begins, each_done, each_next, each_not}
use Rattle.go_type_terms.specs.Answers.{env_in}
use Rattle.std.proofs.Common.{arith}
use Rattle.go_inexact.proofs.values.are_values_of.Goals as goal

pub loop-expr-init : goal.loop-expr-init
loop-expr-init c = each_begins (IsValueOf (env_in c.args.context.now) c.args.term.now) c.args.exprs.now

pub loop-expr-preserved : goal.loop-expr-preserved
loop-expr-preserved c =
    each_next (IsValueOf (env_in c.args.context.now) c.args.term.now) c.args.exprs.now c.loop-expr.expr-index c.expr-item.result c.loop-expr-test.true c.expr-item.is c.loop-expr.invariant c.in_ok-holds.holds c.if-not-holds.false c.in_ok-holds.ensures

pub returns-then-not-holds : goal.returns-then-not-holds
returns-then-not-holds c =
    each_not (IsValueOf (env_in c.args.context.now) c.args.term.now) c.args.exprs.now c.loop-expr.expr-index c.expr-item.result c.loop-expr-test.true c.expr-item.is c.loop-expr.invariant c.in_ok-holds.holds c.if-not-holds.true c.in_ok-holds.ensures

pub returns : goal.returns
returns c = each_done (IsValueOf (env_in c.args.context.now) c.args.term.now) c.args.exprs.now c.loop-expr.expr-index (omega arith) c.loop-expr.invariant
