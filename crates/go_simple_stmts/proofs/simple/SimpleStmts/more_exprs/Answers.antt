use Rattle.std.proofs.Common.{◌∙◌, List, sym, refl}
use Rattle.go_syntax.specs.declared.expression.Expr.{Expr}
use Rattle.go_syntax.specs.grammar.Terminals.{Terminal, terminals}
use Rattle.go_descent.specs.Levels.{levels}
use Rattle.go_cursor.specs.Reading.{Reader, goes_on, run, step_of}
use Rattle.go_descent.specs.Rules.{expr_of, more_exprs}
use Rattle.go_descent.proofs.Chains.{handed, began, ran_out, behind, none_behind, bad_behind, one_behind}
use Rattle.go_simple_stmts.proofs.simple.SimpleStmts.more_exprs.Goals as goal

pub loop-turn-init : goal.loop-turn-init
unfolding more_exprs
loop-turn-init c =
    let operand : Reader Expr = expr_of c.args.composite (levels c.args.self.now.readers.height) in
    began (step_of (behind goes_on operand)) c.args.first c.args.first (terminals c.args.tokens.now) c.len-turn-end.result c.len-turn-end.ensures refl

pub returns-then-not-goes_on : goal.returns-then-not-goes_on
unfolding more_exprs
returns-then-not-goes_on c =
    let operand : Reader Expr = expr_of c.args.composite (levels c.args.self.now.readers.height) in
    let ts : List Terminal = terminals c.loop-turn.tokens in
    none_behind (run (step_of (behind goes_on operand)) c.args.first (terminals c.args.tokens.now)) goes_on operand c.len-turn-end.result c.loop-turn._turn c.loop-turn.exprs ts c.loop-turn-test.true c.loop-turn.invariant (sym c.goes_on.ensures ∙ c.if-not-goes_on.true)

pub returns-in_err-expr : goal.returns-in_err-expr
unfolding more_exprs
returns-in_err-expr c =
    let operand : Reader Expr = expr_of c.args.composite (levels c.args.self.now.readers.height) in
    let ts : List Terminal = terminals c.loop-turn.tokens in
    let us : List Terminal = terminals c.advance.new.self in
    handed (run (step_of (behind goes_on operand)) c.args.first (terminals c.args.tokens.now)) (operand us) c.in_err-expr.field-0.0 c.from_residual.result c.expr.new.tokens c.expr.new.tokens c.from_residual.ensures.1 c.in_err-expr.ensures
    (λ none. bad_behind (run (step_of (behind goes_on operand)) c.args.first (terminals c.args.tokens.now)) goes_on operand c.len-turn-end.result c.loop-turn._turn c.loop-turn.exprs ts c.loop-turn-test.true c.loop-turn.invariant us (sym c.goes_on.ensures ∙ c.if-not-goes_on.false) c.advance.ensures none)

pub loop-turn-preserved : goal.loop-turn-preserved
unfolding more_exprs
loop-turn-preserved c =
    let operand : Reader Expr = expr_of c.args.composite (levels c.args.self.now.readers.height) in
    let ts : List Terminal = terminals c.loop-turn.tokens in
    let us : List Terminal = terminals c.advance.new.self in
    one_behind (run (step_of (behind goes_on operand)) c.args.first (terminals c.args.tokens.now)) goes_on operand c.len-turn-end.result c.loop-turn._turn c.loop-turn.exprs ts c.loop-turn-test.true c.loop-turn.invariant
    c.in_ok-expr.field-0 us (terminals c.expr.new.tokens) (sym c.goes_on.ensures ∙ c.if-not-goes_on.false) c.advance.ensures c.in_ok-expr.ensures c.push.new.self c.in_ok-push.ensures.ok

pub returns : goal.returns
unfolding more_exprs
returns c =
    let operand : Reader Expr = expr_of c.args.composite (levels c.args.self.now.readers.height) in
    let ts : List Terminal = terminals c.loop-turn.tokens in
    ran_out (run (step_of (behind goes_on operand)) c.args.first (terminals c.args.tokens.now)) (step_of (behind goes_on operand)) c.len-turn-end.result c.loop-turn._turn c.loop-turn.exprs ts c.loop-turn-test.false c.loop-turn.invariant
