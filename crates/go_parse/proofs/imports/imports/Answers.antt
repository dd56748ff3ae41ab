use Rattle.std.proofs.Common.{[]}
use Rattle.go_syntax.specs.grammar.Terminals.{terminals}
use Rattle.go_parse.specs.Declarations.{imports, import_item}
use Rattle.go_cursor.specs.Reading.{loop, step_all}
use Rattle.go_cursor.proofs.Loops.{handed, turn_failed, turn_stopped, turn_went_on, starts, all_stop, all_fail, all_more}
use Rattle.go_cursor.proofs.Turns.{no_more}
use Rattle.go_parse.proofs.imports.imports.Goals as goal

pub loop-turn-init : goal.loop-turn-init
unfolding imports
loop-turn-init c = starts (step_all import_item) [] _ _ _ c.len-turn-end.ensures c.new-imports.ensures

pub returns-in_err-import_item : goal.returns-in_err-import_item
returns-in_err-import_item c =
    handed (imports (terminals c.args.tokens.now)) c.in_err-import_item.field-0.0 c.from_residual.result c.import_item.new.tokens c.from_residual.ensures.1
    (λ s. all_fail import_item c.len-turn-end.result c.loop-turn._turn c.loop-turn.imports (terminals c.loop-turn.tokens) _ c.loop-turn-test.true c.loop-turn.invariant
    (turn_failed (import_item (terminals c.loop-turn.tokens)) (terminals c.loop-turn.tokens) c.in_err-import_item.field-0.0 c.import_item.new.tokens c.in_err-import_item.ensures s))

pub returns-in-None : goal.returns-in-None
returns-in-None c =
    all_stop import_item c.len-turn-end.result c.loop-turn._turn c.loop-turn.imports (terminals c.loop-turn.tokens) _ c.loop-turn-test.true c.loop-turn.invariant (terminals c.import_item.new.tokens)
    (turn_stopped (import_item (terminals c.loop-turn.tokens)) (terminals c.loop-turn.tokens) c.in_ok-import_item.field-0 c.import_item.new.tokens c.in-None.is c.in_ok-import_item.ensures)

pub loop-turn-preserved : goal.loop-turn-preserved
loop-turn-preserved c =
    all_more import_item c.len-turn-end.result c.loop-turn._turn c.loop-turn.imports (terminals c.loop-turn.tokens) _ c.loop-turn-test.true c.loop-turn.invariant c.in-Some.more (terminals c.import_item.new.tokens)
    (turn_went_on (import_item (terminals c.loop-turn.tokens)) (terminals c.loop-turn.tokens) c.in_ok-import_item.field-0 c.import_item.new.tokens c.in-Some.more c.in-Some.is c.in_ok-import_item.ensures) _ c.in_ok-imports-in-Some.ensures

pub returns : goal.returns
unfolding loop
returns c = no_more (λ n. loop (step_all import_item) n c.loop-turn.imports (terminals c.loop-turn.tokens)) c.len-turn-end.result c.loop-turn._turn c.loop-turn-test.false c.loop-turn.invariant
