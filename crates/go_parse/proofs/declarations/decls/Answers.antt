use Rattle.std.proofs.Common.{[]}
use Rattle.go_syntax.specs.grammar.Terminals.{terminals}
use Rattle.go_parse.specs.Declarations.{decls, decl_item}
use Rattle.go_descent.specs.Levels.{levels}
use Rattle.go_cursor.specs.Reading.{loop, step_of}
use Rattle.go_cursor.proofs.Loops.{handed, turn_failed, turn_stopped, turn_went_on, starts, items_stop, items_fail, items_more}
use Rattle.go_cursor.proofs.Turns.{no_more}
use Rattle.go_parse.proofs.declarations.decls.Goals as goal

pub loop-turn-init : goal.loop-turn-init
unfolding decls
loop-turn-init c = starts (step_of (decl_item (levels c.args.readers.now.height))) [] _ _ _ c.len-turn-end.ensures c.new-decls.ensures

pub returns-in_err-decl_item : goal.returns-in_err-decl_item
returns-in_err-decl_item c =
    handed (decls (levels c.args.readers.now.height) (terminals c.args.tokens.now)) c.in_err-decl_item.field-0.0 c.from_residual.result c.decl_item.new.tokens c.from_residual.ensures.1
    (λ s. items_fail (decl_item (levels c.args.readers.now.height)) c.len-turn-end.result c.loop-turn._turn c.loop-turn.decls (terminals c.loop-turn.tokens) _ c.loop-turn-test.true c.loop-turn.invariant
    (turn_failed ((decl_item (levels c.args.readers.now.height)) (terminals c.loop-turn.tokens)) (terminals c.loop-turn.tokens) c.in_err-decl_item.field-0.0 c.decl_item.new.tokens c.in_err-decl_item.ensures s))

pub returns-in-None : goal.returns-in-None
returns-in-None c =
    items_stop (decl_item (levels c.args.readers.now.height)) c.len-turn-end.result c.loop-turn._turn c.loop-turn.decls (terminals c.loop-turn.tokens) _ c.loop-turn-test.true c.loop-turn.invariant (terminals c.decl_item.new.tokens)
    (turn_stopped (decl_item (levels c.args.readers.now.height) (terminals c.loop-turn.tokens)) (terminals c.loop-turn.tokens) c.in_ok-decl_item.field-0 c.decl_item.new.tokens c.in-None.is c.in_ok-decl_item.ensures)

pub loop-turn-preserved : goal.loop-turn-preserved
loop-turn-preserved c =
    items_more (decl_item (levels c.args.readers.now.height)) c.len-turn-end.result c.loop-turn._turn c.loop-turn.decls (terminals c.loop-turn.tokens) _ c.loop-turn-test.true c.loop-turn.invariant c.in-Some.decl (terminals c.decl_item.new.tokens)
    (turn_went_on (decl_item (levels c.args.readers.now.height) (terminals c.loop-turn.tokens)) (terminals c.loop-turn.tokens) c.in_ok-decl_item.field-0 c.decl_item.new.tokens c.in-Some.decl c.in-Some.is c.in_ok-decl_item.ensures) _ c.in_ok-push-in-Some.ensures.ok

pub returns : goal.returns
unfolding loop
returns c = no_more (λ n. loop (step_of (decl_item (levels c.args.readers.now.height))) n c.loop-turn.decls (terminals c.loop-turn.tokens)) c.len-turn-end.result c.loop-turn._turn c.loop-turn-test.false c.loop-turn.invariant
