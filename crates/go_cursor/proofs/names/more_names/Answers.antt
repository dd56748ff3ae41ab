use Rattle.std.proofs.Common.{ℕ, ◌-◌, ◌+◌, ◌∙◌, List, ap, sym}
use Rattle.go_syntax.specs.declared.name.Name.{Name}
use Rattle.go_syntax.specs.declared.token.TokenKind.TheVariants as kind
use Rattle.go_syntax.specs.grammar.Symbols.{begins}
use Rattle.go_syntax.specs.grammar.Terminals.{Terminal, terminals}
use Rattle.go_cursor.specs.Reading.{run, loop, step_of, name}
use Rattle.go_cursor.proofs.Handed.{handed}
use Rattle.go_cursor.proofs.Items.{item, item_stops, item_fails, item_goes_on, starts}
use Rattle.go_cursor.proofs.Turns.{one_more, no_more}
use Rattle.go_cursor.proofs.names.more_names.Goals as goal

pub loop-turn-init : goal.loop-turn-init
loop-turn-init c = starts (step_of (item (begins kind.Comma) name)) c.args.first (terminals c.args.tokens.now) c.len-turn-end.result c.len-turn-end.ensures

pub returns-then-not-begins : goal.returns-then-not-begins
returns-then-not-begins c =
    let ts : List Terminal = terminals c.loop-turn.tokens in
    one_more (λ n. loop (step_of (item (begins kind.Comma) name)) n c.loop-turn.names ts) c.len-turn-end.result c.loop-turn._turn c.loop-turn-test.true c.loop-turn.invariant
    ∙ item_stops (begins kind.Comma) name _ c.loop-turn.names ts (sym c.begins.ensures ∙ c.if-not-begins.true)

pub returns-in_err-name : goal.returns-in_err-name
returns-in_err-name c =
    let ts : List Terminal = terminals c.loop-turn.tokens in
    let us : List Terminal = terminals c.advance.new.self in
    handed (run (step_of (item (begins kind.Comma) name)) c.args.first (terminals c.args.tokens.now)) (name us)
    c.in_err-name.field-0.0 c.from_residual.result c.name.new.self c.name.new.self c.from_residual.ensures.1 c.in_err-name.ensures
    (λ none.
    one_more (λ n. loop (step_of (item (begins kind.Comma) name)) n c.loop-turn.names ts) c.len-turn-end.result c.loop-turn._turn c.loop-turn-test.true c.loop-turn.invariant
    ∙ item_fails (begins kind.Comma) name _ c.loop-turn.names ts us (sym c.begins.ensures ∙ c.if-not-begins.false) c.advance.ensures none)

pub loop-turn-preserved : goal.loop-turn-preserved
loop-turn-preserved c =
    let ts : List Terminal = terminals c.loop-turn.tokens in
    let us : List Terminal = terminals c.advance.new.self in
    let rest : List Terminal = terminals c.name.new.self in
    let n : ℕ = c.len-turn-end.result - (c.loop-turn._turn + 1) in
    one_more (λ n. loop (step_of (item (begins kind.Comma) name)) n c.loop-turn.names ts) c.len-turn-end.result c.loop-turn._turn c.loop-turn-test.true c.loop-turn.invariant
    ∙ item_goes_on (begins kind.Comma) name n c.loop-turn.names ts us c.in_ok-name.field-0 rest (sym c.begins.ensures ∙ c.if-not-begins.false) c.advance.ensures c.in_ok-name.ensures
    ∙ ap (λ (l : List Name). loop (step_of (item (begins kind.Comma) name)) n l rest) (sym c.in_ok-push.ensures.ok)

pub returns : goal.returns
unfolding loop
returns c =
    no_more (λ n. loop (step_of (item (begins kind.Comma) name)) n c.loop-turn.names (terminals c.loop-turn.tokens)) c.len-turn-end.result c.loop-turn._turn c.loop-turn-test.false c.loop-turn.invariant
