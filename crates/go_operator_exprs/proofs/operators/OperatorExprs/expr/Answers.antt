use Rattle.std.proofs.Common.{◌∙◌, List, subst, sym}
use Rattle.go_syntax.specs.declared.expression.Expr.{Expr}
use Rattle.go_syntax.specs.grammar.Terminals.{Terminal, terminals}
use Rattle.go_cursor.specs.Reading.{Found}
use Rattle.go_cursor.specs.Reads.{Reads}
use Rattle.go_descent.specs.Levels.{levels}
use Rattle.go_descent.specs.Rules.{Parts, expr_of, unary_expr}
use Rattle.go_descent.proofs.Chains.{handed}
use Rattle.go_operator_exprs.specs.Chains.{EndsOperands, or_after}
use Rattle.go_operator_exprs.proofs.Chained.{follows, nothing_follows, or_alone, or_is}
use Rattle.go_operator_exprs.proofs.operators.OperatorExprs.expr.Goals as goal

pub returns-in_err-first : goal.returns-in_err-first
returns-in_err-first g c =
    let b = c.args.composite in
    let l : Parts = levels c.args.self.now.grammar.now.height in
    let ts : List Terminal = terminals c.args.tokens.now in
    handed (expr_of b l ts) (unary_expr b l ts) c.in_err-first.field-0.0 c.from_residual.result c.unary_expr.new.tokens c.unary_expr.new.tokens c.from_residual.ensures.1 c.in_err-first.ensures
    (nothing_follows (expr_of b l ts) (unary_expr b l ts) (or_after b l) (or_is b l ts))

pub returns-then-not-operator_follows : goal.returns-then-not-operator_follows
returns-then-not-operator_follows g c =
    let b = c.args.composite in
    let l : Parts = levels c.args.self.now.grammar.now.height in
    let ts : List Terminal = terminals c.args.tokens.now in
    let us : List Terminal = terminals c.unary_expr.new.tokens in
    follows (expr_of b l ts) (unary_expr b l ts) (or_after b l) (or_is b l ts) c.in_ok-first.first us c.in_ok-first.ensures ∙ or_alone b l c.in_ok-first.first us
    (subst EndsOperands c.sign.ensures (c.operator_follows.ensures c.if-not-operator_follows.true))

pub returns : goal.returns
returns g c =
    let b = c.args.composite in
    let l : Parts = levels c.args.self.now.grammar.now.height in
    let ts : List Terminal = terminals c.args.tokens.now in
    subst (λ (f : Found Expr). Reads f c.or_chain.result c.or_chain.new.tokens)
    (sym (follows (expr_of b l ts) (unary_expr b l ts) (or_after b l) (or_is b l ts) c.in_ok-first.first (terminals c.unary_expr.new.tokens) c.in_ok-first.ensures)) c.or_chain.ensures
