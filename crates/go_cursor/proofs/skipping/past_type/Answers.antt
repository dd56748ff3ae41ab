use Rattle.std.proofs.Common.{◌-◌, ◌+◌, ◌∙◌, List, Bool, false, ap, rules, arith}
use Rattle.std.proofs.lemmas.Grind.{common_steps}
use Rattle.go_syntax.specs.grammar.Terminals.{Terminal, terminals}
use Rattle.go_cursor.specs.Reading.{run, loop}
use Rattle.go_cursor.specs.Skipping.{past_step, past_front}
use Rattle.go_cursor.proofs.Skips.{handed_turn}
use Rattle.go_cursor.proofs.Turns.{one_more, no_more, turn_stops, turn_fails, turn_goes_on}
use Rattle.go_cursor.proofs.skipping.past_type.Goals as goal

pub loop-turn-init : goal.loop-turn-init
unfolding run
loop-turn-init c = first_of (search rules, grind (arith, common_steps))

pub returns-then-last : goal.returns-then-last
returns-then-last c =
    let ts : List Terminal = terminals c.loop-turn.tokens in
    one_more (λ n. loop past_step n c.loop-turn.last ts) c.len-turn-end.result c.loop-turn._turn c.loop-turn-test.true c.loop-turn.invariant
    ∙ turn_stops past_step _ c.loop-turn.last ts (ap (λ (b : Bool). past_step b ts) c.if-last.true)

pub returns-in_err-last : goal.returns-in_err-last
returns-in_err-last c =
    let ts : List Terminal = terminals c.loop-turn.tokens in
    handed_turn (run past_step false (terminals c.args.tokens.now)) (past_front ts) c.in_err-last.field-0.0 c.from_residual.result c.past_front.new.tokens c.past_front.new.tokens
    c.from_residual.ensures.1 c.in_err-last.ensures
    (λ none.
    one_more (λ n. loop past_step n c.loop-turn.last ts) c.len-turn-end.result c.loop-turn._turn c.loop-turn-test.true c.loop-turn.invariant
    ∙ turn_fails past_step _ c.loop-turn.last ts (ap (λ (b : Bool). past_step b ts) c.if-last.false ∙ none))

pub loop-turn-preserved : goal.loop-turn-preserved
loop-turn-preserved c =
    let ts : List Terminal = terminals c.loop-turn.tokens in
    one_more (λ n. loop past_step n c.loop-turn.last ts) c.len-turn-end.result c.loop-turn._turn c.loop-turn-test.true c.loop-turn.invariant
    ∙ turn_goes_on past_step (c.len-turn-end.result - (c.loop-turn._turn + 1)) c.loop-turn.last ts c.in_ok-last.last (terminals c.past_front.new.tokens)
    (ap (λ (b : Bool). past_step b ts) c.if-last.false ∙ c.in_ok-last.ensures)

pub returns : goal.returns
unfolding loop
returns c =
    no_more (λ n. loop past_step n c.loop-turn.last (terminals c.loop-turn.tokens)) c.len-turn-end.result c.loop-turn._turn c.loop-turn-test.false c.loop-turn.invariant
