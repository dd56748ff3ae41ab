use Rattle.std.proofs.Common.{◌∙◌, [], sym}
use Rattle.go_syntax.specs.grammar.Terminals.{terminals}
use Rattle.go_descent.specs.Rules.{interface_elem, interface_elems}
use Rattle.go_descent.specs.Levels.{levels}
use Rattle.go_cursor.specs.Reading.{loop, step_of, ended, spec_item}
use Rattle.go_cursor.proofs.Loops.{handed, nothing_found, starts, specs_stop, specs_fail, specs_unended, specs_more}
use Rattle.go_cursor.proofs.Turns.{no_more}
use Rattle.go_type_exprs.proofs.types.TypeExprs.interface_elems.Goals as goal

pub loop-turn-init : goal.loop-turn-init
unfolding interface_elems
loop-turn-init g c = starts (step_of (spec_item (interface_elem (levels c.args.self.now.grammar.now.height)))) [] _ _ _ c.len-turn-end.ensures c.new-items.ensures

pub returns-then-closes : goal.returns-then-closes
returns-then-closes g c = specs_stop (interface_elem (levels c.args.self.now.grammar.now.height)) c.len-turn-end.result c.loop-turn._turn c.loop-turn.items (terminals c.loop-turn.tokens) _ c.loop-turn-test.true c.loop-turn.invariant (sym c.closes.ensures ∙ c.if-closes.true)

pub returns-in_err-interface_elem : goal.returns-in_err-interface_elem
returns-in_err-interface_elem g c =
    handed (interface_elems (levels c.args.self.now.grammar.now.height) (terminals c.args.tokens.now)) c.in_err-interface_elem.field-0.0 c.from_residual.result c.interface_elem.new.tokens c.from_residual.ensures.1
    (λ s. specs_fail (interface_elem (levels c.args.self.now.grammar.now.height)) c.len-turn-end.result c.loop-turn._turn c.loop-turn.items (terminals c.loop-turn.tokens) _ c.loop-turn-test.true c.loop-turn.invariant (sym c.closes.ensures ∙ c.if-closes.false)
    (nothing_found (interface_elem (levels c.args.self.now.grammar.now.height) (terminals c.loop-turn.tokens)) c.in_err-interface_elem.field-0.0 c.interface_elem.new.tokens c.in_err-interface_elem.ensures s))

pub returns-in_err-ended : goal.returns-in_err-ended
returns-in_err-ended g c =
    handed (interface_elems (levels c.args.self.now.grammar.now.height) (terminals c.args.tokens.now)) c.in_err-ended.field-0.0 c.from_residual-in_err-ended.result c.ended.new.self c.from_residual-in_err-ended.ensures.1
    (λ s. specs_unended (interface_elem (levels c.args.self.now.grammar.now.height)) c.len-turn-end.result c.loop-turn._turn c.loop-turn.items (terminals c.loop-turn.tokens) _ c.loop-turn-test.true c.loop-turn.invariant c.in_ok-interface_elem.field-0 (terminals c.interface_elem.new.tokens) (sym c.closes.ensures ∙ c.if-closes.false) c.in_ok-interface_elem.ensures
    (nothing_found (ended {A = Unit {0}} tt (terminals c.interface_elem.new.tokens)) c.in_err-ended.field-0.0 c.ended.new.self c.in_err-ended.ensures s))

pub loop-turn-preserved : goal.loop-turn-preserved
loop-turn-preserved g c =
    specs_more (interface_elem (levels c.args.self.now.grammar.now.height)) c.len-turn-end.result c.loop-turn._turn c.loop-turn.items (terminals c.loop-turn.tokens) _ c.loop-turn-test.true c.loop-turn.invariant c.in_ok-interface_elem.field-0 (terminals c.interface_elem.new.tokens) (terminals c.ended.new.self) (sym c.closes.ensures ∙ c.if-closes.false) c.in_ok-interface_elem.ensures c.in_ok-ended.ensures _ c.in_ok-push.ensures.ok

pub returns : goal.returns
unfolding loop
returns g c = no_more (λ n. loop (step_of (spec_item (interface_elem (levels c.args.self.now.grammar.now.height)))) n c.loop-turn.items (terminals c.loop-turn.tokens)) c.len-turn-end.result c.loop-turn._turn c.loop-turn-test.false c.loop-turn.invariant
