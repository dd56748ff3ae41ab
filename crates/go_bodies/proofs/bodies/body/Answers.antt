use Rattle.std.proofs.Common.{◌∙◌, ◌≤◌, ℕ, List, length, Option, ap, subst, sym, arith}
use Rattle.go_bodies.specs.Reading.{body}
use Rattle.go_bodies.specs.Reads.{FindsBody}
use Rattle.go_bodies.proofs.Handing.{finds_not}
use Rattle.go_bodies.proofs.Outcomes.{more_tokens, no_body, whole_body}
use Rattle.go_bodies.proofs.bodies.body.Goals as goal
use Rattle.go_stmts.specs.go_stmt_descent.Statements.{statements}
use Rattle.go_syntax.specs.declared.statement.ParsedBody.{ParsedBody}
use Rattle.go_syntax.specs.declared.token.Token.{Token}
use Rattle.go_syntax.specs.grammar.Terminals.{Terminal, terminals}

pub returns-in_err-block : goal.returns-in_err-block
returns-in_err-block c =
    let h : ℕ = c.args.height in
    let ts : List Terminal = terminals c.args.tokens.now in
    finds_not (body h ts) ((statements h).block (terminals c.fork-inside.result)) c.in_err-block.field-0.0 c.from_residual.result c.block.new.tokens
    c.from_residual.ensures.1 c.in_err-block.ensures
    (λ e. no_body h ts (ap (λ (l : List Token). (statements h).block (terminals l)) (sym c.fork-inside.ensures) ∙ e))

pub returns-then-len-gt0 : goal.returns-then-len-gt0
returns-then-len-gt0 c =
    let h : ℕ = c.args.height in
    more_tokens h (terminals c.args.tokens.now) c.in_ok-block.block (terminals c.block.new.tokens)
    (ap (λ (l : List Token). (statements h).block (terminals l)) (sym c.fork-inside.ensures) ∙ c.in_ok-block.ensures) (omega (arith, c.len.ensures))

pub returns : goal.returns
returns c =
    let h : ℕ = c.args.height in
    let none_left : length (terminals c.block.new.tokens) ≤ 0 = omega (arith, c.len.ensures) in
    subst (λ (found : Option ParsedBody). FindsBody found c.filled.result)
    (sym (whole_body h (terminals c.args.tokens.now) c.in_ok-block.block (terminals c.block.new.tokens) (ap (λ (l : List Token). (statements h).block (terminals l)) (sym c.fork-inside.ensures) ∙ c.in_ok-block.ensures) none_left))
    c.filled.ensures
