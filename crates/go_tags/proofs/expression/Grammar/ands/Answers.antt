use Rattle.std.proofs.Common.{rules, arith}
use Rattle.std.proofs.lemmas.Grind.{common_steps}
use Rattle.go_tags.specs.inner.RecursiveDescent.{turns, all_turns, and_turn, not_of, or_below}
use Rattle.go_tags.proofs.RemainingTurns.{one_more, no_more}
use Rattle.go_tags.proofs.expression.Grammar.ands.Goals as goal

pub loop-turn-init : goal.loop-turn-init
unfolding all_turns
loop-turn-init g c = first_of (search rules, grind (arith, common_steps))

pub returns : goal.returns
unfolding turns
returns g c =
    let e = no_more (λ n. turns (and_turn (not_of (or_below c.args.self.now.depth))) n c.loop-turn.operands c.loop-turn.parts) _ c.loop-turn._turn c.loop-turn-test.false c.loop-turn.invariant in
    first_of (search rules, grind (arith, common_steps))

pub returns-in_err-operand-in-Some-And : goal.returns-in_err-operand-in-Some-And
unfolding turns
returns-in_err-operand-in-Some-And g c =
    let e = one_more (λ n. turns (and_turn (not_of (or_below c.args.self.now.depth))) n c.loop-turn.operands c.loop-turn.parts) _ c.loop-turn._turn c.loop-turn-test.true c.loop-turn.invariant in
    first_of (search rules, grind (arith, common_steps))

pub returns-in_default : goal.returns-in_default
unfolding turns
returns-in_default g c =
    let e = one_more (λ n. turns (and_turn (not_of (or_below c.args.self.now.depth))) n c.loop-turn.operands c.loop-turn.parts) _ c.loop-turn._turn c.loop-turn-test.true c.loop-turn.invariant in
    first_of (search rules, grind (arith, common_steps))

pub loop-turn-preserved : goal.loop-turn-preserved
unfolding turns
loop-turn-preserved g c =
    let e = one_more (λ n. turns (and_turn (not_of (or_below c.args.self.now.depth))) n c.loop-turn.operands c.loop-turn.parts) _ c.loop-turn._turn c.loop-turn-test.true c.loop-turn.invariant in
    first_of (search rules, grind (arith, common_steps))
