use Rattle.std.proofs.Common.{List, subst, sym}
use Rattle.go_syntax.specs.declared.expression.Expr.{Expr}
use Rattle.go_syntax.specs.grammar.Terminals.{Terminal, terminals}
use Rattle.go_cursor.specs.Reading.{Found}
use Rattle.go_cursor.specs.Reads.{Reads}
use Rattle.go_descent.specs.Levels.{levels}
use Rattle.go_descent.specs.Rules.{Parts, and_expr, unary_expr}
use Rattle.go_descent.proofs.Chains.{handed}
use Rattle.go_operator_exprs.specs.Chains.{and_after}
use Rattle.go_operator_exprs.proofs.Chained.{follows, nothing_follows, and_is}
use Rattle.go_operator_exprs.proofs.operators.OperatorExprs.and_expr.Goals as goal

pub returns-in_err-first : goal.returns-in_err-first
returns-in_err-first g c =
    let b = c.args.composite in
    let l : Parts = levels c.args.self.now.grammar.now.height in
    let ts : List Terminal = terminals c.args.tokens.now in
    handed (and_expr b l ts) (unary_expr b l ts) c.in_err-first.field-0.0 c.from_residual.result c.unary_expr.new.tokens c.unary_expr.new.tokens c.from_residual.ensures.1 c.in_err-first.ensures
    (nothing_follows (and_expr b l ts) (unary_expr b l ts) (and_after b l) (and_is b l ts))

pub returns : goal.returns
returns g c =
    let b = c.args.composite in
    let l : Parts = levels c.args.self.now.grammar.now.height in
    let ts : List Terminal = terminals c.args.tokens.now in
    subst (λ (f : Found Expr). Reads f c.and_chain.result c.and_chain.new.tokens)
    (sym (follows (and_expr b l ts) (unary_expr b l ts) (and_after b l) (and_is b l ts) c.in_ok-first.first (terminals c.unary_expr.new.tokens) c.in_ok-first.ensures)) c.and_chain.ensures
