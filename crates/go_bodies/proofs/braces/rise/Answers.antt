use Rattle.std.proofs.Common.{◌≡◌, ◌-◌, ◌∙◌, List, length, sym, arith}
use Rattle.go_bodies.proofs.BraceSteps.{all_rise, falls, one_fewer, rises_on}
use Rattle.go_bodies.proofs.braces.rise.Goals as goal
use Rattle.go_syntax.specs.grammar.Terminals.{Terminal, terminals}

pub returns-in-None : goal.returns-in-None
returns-in-None c = sym (c.loop-turn.invariant.0 ∙ falls c.loop-turn.least (terminals c.loop-turn.ahead) c.in-None.ensures)

pub loop-turn-preserved : goal.loop-turn-preserved
loop-turn-preserved c =
    let ts : List Terminal = terminals c.loop-turn.ahead in
    let us : List Terminal = terminals c.advance.new.self in
    let fewer : length us ≡ length ts - 1 = one_fewer ts us c.advance.ensures in (
      c.loop-turn.invariant.0 ∙ rises_on c.loop-turn.least c.in-Some.bound ts us c.in-Some.ensures c.advance.ensures,
      omega (arith, c.loop-turn.invariant.1),
    )

pub returns : goal.returns
returns c = sym (c.loop-turn.invariant.0 ∙ all_rise c.loop-turn.least (terminals c.loop-turn.ahead) (omega (arith, c.loop-turn.invariant.1)))
