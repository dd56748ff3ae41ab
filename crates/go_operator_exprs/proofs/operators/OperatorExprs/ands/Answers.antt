use Rattle.std.proofs.Common.{◌∙◌, List, [], sym}
use Rattle.go_syntax.specs.declared.expression.Expr.{Expr}
use Rattle.go_syntax.specs.declared.token.TokenKind.TheVariants as kind
use Rattle.go_syntax.specs.grammar.Symbols.{begins}
use Rattle.go_syntax.specs.grammar.Terminals.{Terminal, terminals}
use Rattle.go_descent.specs.Levels.{levels}
use Rattle.go_cursor.specs.Reading.{Reader, run, step_of}
use Rattle.go_descent.specs.Rules.{compare_expr}
use Rattle.go_descent.proofs.Chains.{handed, began, ran_out, behind, none_behind, bad_behind, one_behind}
use Rattle.go_operator_exprs.proofs.operators.OperatorExprs.ands.Goals as goal

pub loop-turn-init : goal.loop-turn-init
loop-turn-init g c =
    let operand : Reader Expr = compare_expr c.args.composite (levels c.args.self.now.grammar.now.height) in
    began (step_of (behind (begins kind.LogicalAnd) operand)) [] c.new-operands.result (terminals c.args.tokens.now) c.len-turn-end.result c.len-turn-end.ensures c.new-operands.ensures

pub returns-then-not-begins : goal.returns-then-not-begins
returns-then-not-begins g c =
    let operand : Reader Expr = compare_expr c.args.composite (levels c.args.self.now.grammar.now.height) in
    let ts : List Terminal = terminals c.loop-turn.tokens in
    none_behind (run (step_of (behind (begins kind.LogicalAnd) operand)) [] (terminals c.args.tokens.now)) (begins kind.LogicalAnd) operand c.len-turn-end.result c.loop-turn._turn c.loop-turn.operands ts c.loop-turn-test.true c.loop-turn.invariant (sym c.begins.ensures ∙ c.if-not-begins.true)

pub returns-in_err-compare_expr : goal.returns-in_err-compare_expr
returns-in_err-compare_expr g c =
    let operand : Reader Expr = compare_expr c.args.composite (levels c.args.self.now.grammar.now.height) in
    let ts : List Terminal = terminals c.loop-turn.tokens in
    let us : List Terminal = terminals c.advance.new.self in
    handed (run (step_of (behind (begins kind.LogicalAnd) operand)) [] (terminals c.args.tokens.now)) (operand us) c.in_err-compare_expr.field-0.0 c.from_residual.result c.compare_expr.new.tokens c.compare_expr.new.tokens c.from_residual.ensures.1 c.in_err-compare_expr.ensures
    (λ none. bad_behind (run (step_of (behind (begins kind.LogicalAnd) operand)) [] (terminals c.args.tokens.now)) (begins kind.LogicalAnd) operand c.len-turn-end.result c.loop-turn._turn c.loop-turn.operands ts c.loop-turn-test.true c.loop-turn.invariant us (sym c.begins.ensures ∙ c.if-not-begins.false) c.advance.ensures none)

pub loop-turn-preserved : goal.loop-turn-preserved
loop-turn-preserved g c =
    let operand : Reader Expr = compare_expr c.args.composite (levels c.args.self.now.grammar.now.height) in
    let ts : List Terminal = terminals c.loop-turn.tokens in
    let us : List Terminal = terminals c.advance.new.self in
    one_behind (run (step_of (behind (begins kind.LogicalAnd) operand)) [] (terminals c.args.tokens.now)) (begins kind.LogicalAnd) operand c.len-turn-end.result c.loop-turn._turn c.loop-turn.operands ts c.loop-turn-test.true c.loop-turn.invariant
    c.in_ok-compare_expr.field-0 us (terminals c.compare_expr.new.tokens) (sym c.begins.ensures ∙ c.if-not-begins.false) c.advance.ensures c.in_ok-compare_expr.ensures c.push.new.self c.in_ok-push.ensures.ok

pub returns : goal.returns
returns g c =
    let operand : Reader Expr = compare_expr c.args.composite (levels c.args.self.now.grammar.now.height) in
    let ts : List Terminal = terminals c.loop-turn.tokens in
    ran_out (run (step_of (behind (begins kind.LogicalAnd) operand)) [] (terminals c.args.tokens.now)) (step_of (behind (begins kind.LogicalAnd) operand)) c.len-turn-end.result c.loop-turn._turn c.loop-turn.operands ts c.loop-turn-test.false c.loop-turn.invariant
