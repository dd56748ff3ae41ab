use Rattle.std.proofs.Common.{◌≡◌, ◌-◌, ◌∙◌, List, length, sym, arith}
use Rattle.go_bodies.proofs.BraceSteps.{here, none_left, on, one_fewer}
use Rattle.go_bodies.proofs.braces.to_brace.Goals as goal
use Rattle.go_syntax.specs.grammar.Terminals.{Terminal, terminals}

pub returns-then-opens : goal.returns-then-opens
returns-then-opens c = sym (c.loop-turn.invariant.0 ∙ here c.args.start (terminals c.loop-turn.tokens) (sym c.opens.ensures ∙ c.if-opens.true))

pub loop-turn-preserved : goal.loop-turn-preserved
loop-turn-preserved c =
    let ts : List Terminal = terminals c.loop-turn.tokens in
    let us : List Terminal = terminals c.advance.new.self in
    let fewer : length us ≡ length ts - 1 = one_fewer ts us c.advance.ensures in (
      c.loop-turn.invariant.0 ∙ on c.args.start ts us (sym c.opens.ensures ∙ c.if-opens.false) c.advance.ensures,
      omega (arith, c.loop-turn.invariant.1),
    )

pub returns : goal.returns
returns c = sym (c.loop-turn.invariant.0 ∙ none_left c.args.start (terminals c.loop-turn.tokens) (omega (arith, c.loop-turn.invariant.1)))
