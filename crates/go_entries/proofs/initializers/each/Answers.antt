use Rattle.go_rules.specs.Expressions.{Has, HasEach}
use Rattle.go_type_terms.specs.Answers.{env_in}
use Rattle.go_type_terms.proofs.Handed.{told_told}
use Rattle.go_entries.proofs.Initializing.{in_each, to_each}
use Rattle.go_entries.proofs.Zipped.{zipped_begins, zipped_first, zipped_next, zipped_whole}
use Rattle.go_entries.proofs.initializers.each.Goals as goal

pub loop-expr-init : goal.loop-expr-init
loop-expr-init c = zipped_begins (Has (env_in c.args.context.now)) c.args.exprs.now c.new-operands.result c.new-operands.ensures

pub loop-expr-preserved : goal.loop-expr-preserved
loop-expr-preserved c =
    zipped_next (Has (env_in c.args.context.now)) c.args.exprs.now c.loop-expr.expr-index c.expr-item.result c.loop-expr.operands c.push.new.self c.in_ok-operand.operand
    c.loop-expr-test.true c.expr-item.is c.in_ok-operand.ensures c.in_ok-push.ensures.ok c.loop-expr.invariant

pub returns-in_err-operand : goal.returns-in_err-operand
returns-in_err-operand c =
    let E = env_in c.args.context.now in
    let es = c.args.exprs.now in
    let e = c.expr-item.result in
    told_told (Has E e) (HasEach E es) c.in_err-operand.field-0.0 c.from_residual.result c.from_residual.ensures.1 c.in_err-operand.ensures
    (λ os h. zipped_first (Has E) es c.loop-expr.expr-index e c.loop-expr.operands c.loop-expr-test.true c.expr-item.is c.loop-expr.invariant os (in_each E es os h))

pub returns : goal.returns
returns c =
    let E = env_in c.args.context.now in
    to_each E c.args.exprs.now c.loop-expr.operands (zipped_whole (Has E) c.args.exprs.now c.loop-expr.expr-index c.loop-expr.operands c.loop-expr-test.false c.loop-expr.invariant)
