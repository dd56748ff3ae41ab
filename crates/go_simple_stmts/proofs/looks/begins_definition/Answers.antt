use Rattle.std.proofs.Common.{◌≡◌, ◌-◌, ◌∙◌, List, length, sym, arith}
use Rattle.go_cursor.proofs.LookAheads.{two_fewer}
use Rattle.go_syntax.specs.grammar.Terminals.{Terminal, terminals}
use Rattle.go_simple_stmts.proofs.LookAheads.{no_name, last_name, name_and_comma, none_left}
use Rattle.go_simple_stmts.proofs.looks.begins_definition.Goals as goal

pub returns-then-not-begins_name : goal.returns-then-not-begins_name
returns-then-not-begins_name c = sym (c.loop-turn.invariant.0 ∙ no_name (terminals c.loop-turn.ahead) (sym c.begins_name.ensures ∙ c.if-not-begins_name.true))

pub returns-then-not-begins : goal.returns-then-not-begins
returns-then-not-begins c =
    c.begins-then-not-begins.ensures
    ∙ sym (c.loop-turn.invariant.0 ∙ last_name (terminals c.loop-turn.ahead) (terminals c.advance.new.self) (sym c.begins_name.ensures ∙ c.if-not-begins_name.false) c.advance.ensures (sym c.begins.ensures ∙ c.if-not-begins.true))

pub loop-turn-preserved : goal.loop-turn-preserved
loop-turn-preserved c =
    let ts : List Terminal = terminals c.loop-turn.ahead in
    let us : List Terminal = terminals c.advance.new.self in
    let vs : List Terminal = terminals c.advance-in-loop-turn.new.self in
    let fewer : length vs ≡ length ts - 2 = two_fewer ts us vs c.advance.ensures c.advance-in-loop-turn.ensures in (
      c.loop-turn.invariant.0 ∙ name_and_comma ts us (sym c.begins_name.ensures ∙ c.if-not-begins_name.false) c.advance.ensures vs (sym c.begins.ensures ∙ c.if-not-begins.false) c.advance-in-loop-turn.ensures,
      omega (arith, c.loop-turn.invariant.1),
    )

pub returns : goal.returns
returns c = sym (c.loop-turn.invariant.0 ∙ none_left (terminals c.loop-turn.ahead) (omega (arith, c.loop-turn.invariant.1)))
