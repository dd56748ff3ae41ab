use Rattle.std.proofs.Common.{◌∷◌, [], ◌+◌, drop, map, Bool, sym, subst, arith}
use Rattle.go_expr.specs.Arguments.{HasEachAfter}
use Rattle.go_rules.specs.Expressions.{Has}
use Rattle.go_rules.specs.Nodes.{expression}
use Rattle.go_literals.specs.go_type_terms.Answers.{env_in}
use Rattle.go_literals.proofs.go_type_terms_proofs.Handed.{handed}
use Rattle.go_expr.proofs.Arguing.{Arguing, arguing_first, arguing_next, arguing_whole}
use Rattle.go_expr.proofs.exprs.Exprs.each_after.Goals as goal

pub returns-in_err-operand : goal.returns-in_err-operand
returns-in_err-operand g c =
    let E = env_in c.args.self.now.literals.operations.typing.context.now in
    let e = c.expr-item.result in
    handed E (Has E e) (HasEachAfter E c.args.before c.args.exprs.now) (expression e ∷ []) (map expression c.args.exprs.now) c.in_err-operand.field-0.0 c.from_residual.result c.from_residual.ensures.1 c.in_err-operand.ensures
    (arguing_first E c.args.before c.args.exprs.now c.loop-expr.operands c.loop-expr.expr-index e c.loop-expr.loud c.loop-expr-test.true c.expr-item.is c.loop-expr.invariant)

pub loop-expr-preserved : goal.loop-expr-preserved
loop-expr-preserved g c =
    let E = env_in c.args.self.now.literals.operations.typing.context.now in
    let es = c.args.exprs.now in
    subst (λ (b : Bool). Arguing E c.args.before es c.push.new.self (drop (c.loop-expr.expr-index + 1) es) b) (sym c.either-loud.ensures)
    (arguing_next E c.args.before es c.loop-expr.operands c.push.new.self c.loop-expr.expr-index c.expr-item.result c.in_ok-operand.operand c.loop-expr.loud c.in_ok-operand.louder c.loop-expr-test.true c.expr-item.is c.in_ok-operand.ensures.0 c.in_ok-operand.ensures.1 c.in_ok-push.ensures.ok c.loop-expr.invariant)

pub returns : goal.returns
returns g c = arguing_whole (env_in c.args.self.now.literals.operations.typing.context.now) c.args.before c.args.exprs.now c.loop-expr.operands c.loop-expr.expr-index c.loop-expr.loud (omega arith) c.loop-expr.invariant
