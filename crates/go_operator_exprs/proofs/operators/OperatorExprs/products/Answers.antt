use Rattle.std.proofs.Common.{List, []}
use Rattle.go_syntax.specs.declared.expression.Expr.{Expr}
use Rattle.go_syntax.specs.grammar.Grammar.{product_operator}
use Rattle.go_syntax.specs.grammar.Terminals.{Terminal, terminals}
use Rattle.go_descent.specs.Levels.{levels}
use Rattle.go_cursor.specs.Reading.{Reader, run}
use Rattle.go_descent.specs.Rules.{step_both, operation, unary_expr}
use Rattle.go_descent.proofs.Chains.{handed, began, both_empty, ran_out, no_operator, no_operand, one_operation}
use Rattle.go_operator_exprs.proofs.operators.OperatorExprs.products.Goals as goal

pub loop-turn-init : goal.loop-turn-init
loop-turn-init g c =
    let operand : Reader Expr = unary_expr c.args.composite (levels c.args.self.now.grammar.now.height) in
    began (step_both (operation product_operator operand)) ([], []) (c.new-operators.result, c.new-operands.result) (terminals c.args.tokens.now) c.len-turn-end.result c.len-turn-end.ensures (both_empty c.new-operators.result c.new-operands.result c.new-operators.ensures c.new-operands.ensures)

pub returns-in-None : goal.returns-in-None
returns-in-None g c =
    let operand : Reader Expr = unary_expr c.args.composite (levels c.args.self.now.grammar.now.height) in
    let ts : List Terminal = terminals c.loop-turn.tokens in
    no_operator (run (step_both (operation product_operator operand)) ([], []) (terminals c.args.tokens.now)) product_operator operand c.len-turn-end.result c.loop-turn._turn c.loop-turn.operators c.loop-turn.operands ts c.loop-turn-test.true c.loop-turn.invariant c.sign.result c.sign.ensures c.in-None.ensures

pub returns-in_err-unary_expr-in-Some : goal.returns-in_err-unary_expr-in-Some
returns-in_err-unary_expr-in-Some g c =
    let operand : Reader Expr = unary_expr c.args.composite (levels c.args.self.now.grammar.now.height) in
    let ts : List Terminal = terminals c.loop-turn.tokens in
    let us : List Terminal = terminals c.advance.new.self in
    handed (run (step_both (operation product_operator operand)) ([], []) (terminals c.args.tokens.now)) (operand us) c.in_err-unary_expr-in-Some.field-0.0 c.from_residual-in_err-unary_expr-in-Some.result c.unary_expr.new.tokens c.unary_expr.new.tokens c.from_residual-in_err-unary_expr-in-Some.ensures.1 c.in_err-unary_expr-in-Some.ensures
    (λ none. no_operand (run (step_both (operation product_operator operand)) ([], []) (terminals c.args.tokens.now)) product_operator operand c.len-turn-end.result c.loop-turn._turn c.loop-turn.operators c.loop-turn.operands ts c.loop-turn-test.true c.loop-turn.invariant c.sign.result c.sign.ensures c.in-Some.operator us c.in-Some.ensures c.advance.ensures none)

pub loop-turn-preserved : goal.loop-turn-preserved
loop-turn-preserved g c =
    let operand : Reader Expr = unary_expr c.args.composite (levels c.args.self.now.grammar.now.height) in
    let ts : List Terminal = terminals c.loop-turn.tokens in
    let us : List Terminal = terminals c.advance.new.self in
    one_operation (run (step_both (operation product_operator operand)) ([], []) (terminals c.args.tokens.now)) product_operator operand c.len-turn-end.result c.loop-turn._turn c.loop-turn.operators c.loop-turn.operands ts c.loop-turn-test.true c.loop-turn.invariant c.sign.result c.sign.ensures
    c.in-Some.operator c.in_ok-unary_expr-in-Some.field-0 us (terminals c.unary_expr.new.tokens) c.in-Some.ensures c.advance.ensures c.in_ok-unary_expr-in-Some.ensures c.push.new.self c.push-in-Some.new.self c.in_ok-push-in-Some.ensures.ok c.in_ok-push-in-Some-2.ensures.ok

pub returns : goal.returns
returns g c =
    let operand : Reader Expr = unary_expr c.args.composite (levels c.args.self.now.grammar.now.height) in
    let ts : List Terminal = terminals c.loop-turn.tokens in
    ran_out (run (step_both (operation product_operator operand)) ([], []) (terminals c.args.tokens.now)) (step_both (operation product_operator operand)) c.len-turn-end.result c.loop-turn._turn (c.loop-turn.operators, c.loop-turn.operands) ts c.loop-turn-test.false c.loop-turn.invariant
