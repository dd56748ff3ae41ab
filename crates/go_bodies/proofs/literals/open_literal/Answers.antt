use Rattle.std.proofs.Common.{◌∙◌, ℕ, List, ap, sym}
use Rattle.go_bodies.specs.Reading.{opened, progress}
use Rattle.go_bodies.proofs.Handing.{opens_not}
use Rattle.go_bodies.proofs.Outcomes.{no_block, opens_a_block}
use Rattle.go_bodies.proofs.literals.open_literal.Goals as goal
use Rattle.go_function_literals.specs.declared.place.LiteralPlace.{LiteralPlace}
use Rattle.go_stmts.specs.go_stmt_descent.Statements.{statements}
use Rattle.go_syntax.specs.declared.token.Token.{Token}
use Rattle.go_syntax.specs.grammar.Terminals.{Terminal, terminals}

pub returns-in_err-block : goal.returns-in_err-block
returns-in_err-block c =
    let p : LiteralPlace = c.args.place.now in
    let ts : List Terminal = terminals c.args.ahead.now in
    let us : List Terminal = terminals c.to_brace.new.tokens in
    let h : ℕ = c.least-height.result in
    opens_not (opened c.args.most p (progress ts c.args.found.now)) ((statements h).block (terminals c.fork-inside.result)) c.in_err-block.field-0.0 c.from_residual.result c.block.new.tokens c.to_brace.new.tokens c.args.found.now
    c.from_residual.ensures.1 c.in_err-block.ensures
    (λ e. no_block c.args.most p ts us c.args.found.now h c.to_brace.ensures c.least-height.ensures.least (ap (λ (l : List Token). (statements h).block (terminals l)) (sym c.fork-inside.ensures) ∙ e))

pub returns : goal.returns
returns c =
    let h : ℕ = c.least-height.result in
    opens_a_block c.args.most c.args.place.now (terminals c.args.ahead.now) (terminals c.to_brace.new.tokens) c.args.found.now h c.to_brace.ensures c.least-height.ensures.least
    c.in_ok-block.block (terminals c.block.new.tokens) (terminals c.advance.new.self) c.in_ok-kept.field-0 c.kept.new.found
    (ap (λ (l : List Token). (statements h).block (terminals l)) (sym c.fork-inside.ensures) ∙ c.in_ok-block.ensures) c.in_ok-kept.ensures.0 c.advance.ensures c.in_ok-kept.ensures.1
