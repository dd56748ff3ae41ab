use Rattle.std.proofs.Common.{◌∙◌, [], sym}
use Rattle.go_syntax.specs.grammar.Terminals.{terminals}
use Rattle.go_parse.specs.Declarations.{specs, const_spec}
use Rattle.go_descent.specs.Levels.{levels}
use Rattle.go_cursor.specs.Reading.{loop, step_of, ended, spec_item}
use Rattle.go_cursor.proofs.Loops.{handed, nothing_found, starts, specs_stop, specs_fail, specs_unended, specs_more}
use Rattle.go_cursor.proofs.Turns.{no_more}
use Rattle.go_parse.proofs.declarations.const_specs.Goals as goal

pub loop-turn-init : goal.loop-turn-init
unfolding specs
loop-turn-init c = starts (step_of (spec_item (const_spec (levels c.args.readers.now.height)))) [] _ _ _ c.len-turn-end.ensures c.new-specs.ensures

pub returns-then-closes : goal.returns-then-closes
returns-then-closes c = specs_stop (const_spec (levels c.args.readers.now.height)) c.len-turn-end.result c.loop-turn._turn c.loop-turn.specs (terminals c.loop-turn.tokens) _ c.loop-turn-test.true c.loop-turn.invariant (sym c.closes.ensures ∙ c.if-closes.true)

pub returns-in_err-const_spec : goal.returns-in_err-const_spec
returns-in_err-const_spec c =
    handed (specs (const_spec (levels c.args.readers.now.height)) (terminals c.args.tokens.now)) c.in_err-const_spec.field-0.0 c.from_residual.result c.const_spec.new.tokens c.from_residual.ensures.1
    (λ s. specs_fail (const_spec (levels c.args.readers.now.height)) c.len-turn-end.result c.loop-turn._turn c.loop-turn.specs (terminals c.loop-turn.tokens) _ c.loop-turn-test.true c.loop-turn.invariant (sym c.closes.ensures ∙ c.if-closes.false)
    (nothing_found (const_spec (levels c.args.readers.now.height) (terminals c.loop-turn.tokens)) c.in_err-const_spec.field-0.0 c.const_spec.new.tokens c.in_err-const_spec.ensures s))

pub returns-in_err-ended : goal.returns-in_err-ended
returns-in_err-ended c =
    handed (specs (const_spec (levels c.args.readers.now.height)) (terminals c.args.tokens.now)) c.in_err-ended.field-0.0 c.from_residual-in_err-ended.result c.ended.new.self c.from_residual-in_err-ended.ensures.1
    (λ s. specs_unended (const_spec (levels c.args.readers.now.height)) c.len-turn-end.result c.loop-turn._turn c.loop-turn.specs (terminals c.loop-turn.tokens) _ c.loop-turn-test.true c.loop-turn.invariant c.in_ok-const_spec.field-0 (terminals c.const_spec.new.tokens) (sym c.closes.ensures ∙ c.if-closes.false) c.in_ok-const_spec.ensures
    (nothing_found (ended {A = Unit {0}} tt (terminals c.const_spec.new.tokens)) c.in_err-ended.field-0.0 c.ended.new.self c.in_err-ended.ensures s))

pub loop-turn-preserved : goal.loop-turn-preserved
loop-turn-preserved c =
    specs_more (const_spec (levels c.args.readers.now.height)) c.len-turn-end.result c.loop-turn._turn c.loop-turn.specs (terminals c.loop-turn.tokens) _ c.loop-turn-test.true c.loop-turn.invariant c.in_ok-const_spec.field-0 (terminals c.const_spec.new.tokens) (terminals c.ended.new.self) (sym c.closes.ensures ∙ c.if-closes.false) c.in_ok-const_spec.ensures c.in_ok-ended.ensures _ c.in_ok-push.ensures.ok

pub returns : goal.returns
unfolding loop
returns c = no_more (λ n. loop (step_of (spec_item (const_spec (levels c.args.readers.now.height)))) n c.loop-turn.specs (terminals c.loop-turn.tokens)) c.len-turn-end.result c.loop-turn._turn c.loop-turn-test.false c.loop-turn.invariant
