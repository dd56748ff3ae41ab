use Rattle.std.proofs.Common.{◌≡◌, ◌∙◌, suc, ◌-◌, List, ap, sym, arith}
use Rattle.go_cursor.specs.Reading.{Found, bind, close}
use Rattle.go_cursor.proofs.Handed.{handed}
use Rattle.go_stmt_descent.specs.Communications.{receive, receive_alone}
use Rattle.go_stmt_parts.proofs.Heights.{no_receive, other_receive, paren_receive, reads_as}
use Rattle.go_stmt_parts.proofs.communications.+receive.Goals as goal
use Rattle.go_syntax.specs.declared.expression.Expr.{Expr}
use Rattle.go_syntax.specs.declared.expression.Expr.TheVariants as expr
use Rattle.go_syntax.specs.declared.token.TokenKind.TheVariants as kind
use Rattle.go_syntax.specs.grammar.Terminals.{Terminal, terminals}

pub returns-then-not-begins : goal.returns-then-not-begins
returns-then-not-begins t c =
    reads_as (receive c.args.readers.height (terminals c.args.tokens.now)) (receive_alone c.args.readers.height (terminals c.args.tokens.now)) c.receive_alone.result c.receive_alone.new.tokens
    (other_receive c.args.readers.height (terminals c.args.tokens.now) (sym c.begins.ensures ∙ c.if-not-begins.true)) c.receive_alone.ensures

pub returns-then-readers-eq0 : goal.returns-then-readers-eq0
returns-then-readers-eq0 t c = no_receive c.args.readers.height (terminals c.args.tokens.now) (omega arith) (sym c.begins.ensures ∙ c.if-not-begins.false)

pub returns-in_err-inner : goal.returns-in_err-inner
returns-in_err-inner t c =
    let ts : List Terminal = terminals c.args.tokens.now in
    let us : List Terminal = terminals c.advance.new.self in
    let e : c.args.readers.height ≡ suc (c.args.readers.height - 1) = omega arith in
    handed (receive c.args.readers.height ts) (receive (c.args.readers.height - 1) us) c.in_err-inner.field-0.0 c.from_residual.result c.receive.new.tokens c.receive.new.tokens c.from_residual.ensures.1 c.in_err-inner.ensures
    (λ none. paren_receive c.args.readers.height (c.args.readers.height - 1) ts e (sym c.begins.ensures ∙ c.if-not-begins.false)
    ∙ ap (λ w. bind (receive (c.args.readers.height - 1) w) (λ x. close kind.RightParen (expr.Paren x))) (sym c.advance.ensures)
    ∙ ap (λ (f : Found Expr). bind f (λ x. close kind.RightParen (expr.Paren x))) none)

pub returns : goal.returns
returns t c =
    let ts : List Terminal = terminals c.args.tokens.now in
    let us : List Terminal = terminals c.advance.new.self in
    let e : c.args.readers.height ≡ suc (c.args.readers.height - 1) = omega arith in
    reads_as (receive c.args.readers.height ts) (close kind.RightParen (expr.Paren c.in_ok-inner.inner) (terminals c.receive.new.tokens)) c.closed.result c.closed.new.tokens
    (paren_receive c.args.readers.height (c.args.readers.height - 1) ts e (sym c.begins.ensures ∙ c.if-not-begins.false)
    ∙ ap (λ w. bind (receive (c.args.readers.height - 1) w) (λ x. close kind.RightParen (expr.Paren x))) (sym c.advance.ensures)
    ∙ ap (λ (f : Found Expr). bind f (λ x. close kind.RightParen (expr.Paren x))) c.in_ok-inner.ensures)
    c.closed.ensures
