use Rattle.std.proofs.Common.{ℕ, ◌-◌, ◌+◌, ◌∙◌, List, ap, sym}
use Rattle.go_cursor.specs.Reading.{Reader, run, loop, step_of}
use Rattle.go_cursor.proofs.Handed.{handed}
use Rattle.go_cursor.proofs.Items.{item, item_stops, item_fails, item_goes_on, starts}
use Rattle.go_cursor.proofs.Turns.{one_more, no_more}
use Rattle.go_descent.specs.Levels.{levels}
use Rattle.go_descent.specs.Rules.{typ_of}
use Rattle.go_stmt_parts.proofs.type_lists.more_types.Goals as goal
use Rattle.go_syntax.specs.declared.types.«Type».{«Type» as Typ}
use Rattle.go_syntax.specs.declared.token.TokenKind.TheVariants as kind
use Rattle.go_syntax.specs.grammar.Symbols.{begins}
use Rattle.go_syntax.specs.grammar.Terminals.{Terminal, terminals}

pub loop-turn-init : goal.loop-turn-init
loop-turn-init c = starts (step_of (item (begins kind.Comma) (typ_of (levels c.args.readers.now.height)))) c.args.first (terminals c.args.tokens.now) c.len-turn-end.result c.len-turn-end.ensures

pub returns-then-not-begins : goal.returns-then-not-begins
returns-then-not-begins c =
    let read : Reader Typ = typ_of (levels c.args.readers.now.height) in
    let ts : List Terminal = terminals c.loop-turn.tokens in
    one_more (λ n. loop (step_of (item (begins kind.Comma) read)) n c.loop-turn.types ts) c.len-turn-end.result c.loop-turn._turn c.loop-turn-test.true c.loop-turn.invariant
    ∙ item_stops (begins kind.Comma) read _ c.loop-turn.types ts (sym c.begins.ensures ∙ c.if-not-begins.true)

pub returns-in_err-type_ : goal.returns-in_err-type_
returns-in_err-type_ c =
    let read : Reader Typ = typ_of (levels c.args.readers.now.height) in
    let ts : List Terminal = terminals c.loop-turn.tokens in
    let us : List Terminal = terminals c.advance.new.self in
    handed (run (step_of (item (begins kind.Comma) read)) c.args.first (terminals c.args.tokens.now)) (read us)
    c.in_err-type_.field-0.0 c.from_residual.result c.type_.new.tokens c.type_.new.tokens c.from_residual.ensures.1 c.in_err-type_.ensures
    (λ none.
    one_more (λ n. loop (step_of (item (begins kind.Comma) read)) n c.loop-turn.types ts) c.len-turn-end.result c.loop-turn._turn c.loop-turn-test.true c.loop-turn.invariant
    ∙ item_fails (begins kind.Comma) read _ c.loop-turn.types ts us (sym c.begins.ensures ∙ c.if-not-begins.false) c.advance.ensures none)

pub loop-turn-preserved : goal.loop-turn-preserved
loop-turn-preserved c =
    let read : Reader Typ = typ_of (levels c.args.readers.now.height) in
    let ts : List Terminal = terminals c.loop-turn.tokens in
    let us : List Terminal = terminals c.advance.new.self in
    let rest : List Terminal = terminals c.type_.new.tokens in
    let n : ℕ = c.len-turn-end.result - (c.loop-turn._turn + 1) in
    one_more (λ n. loop (step_of (item (begins kind.Comma) read)) n c.loop-turn.types ts) c.len-turn-end.result c.loop-turn._turn c.loop-turn-test.true c.loop-turn.invariant
    ∙ item_goes_on (begins kind.Comma) read n c.loop-turn.types ts us c.in_ok-type_.field-0 rest (sym c.begins.ensures ∙ c.if-not-begins.false) c.advance.ensures c.in_ok-type_.ensures
    ∙ ap (λ (l : List Typ). loop (step_of (item (begins kind.Comma) read)) n l rest) (sym c.in_ok-push.ensures.ok)

pub returns : goal.returns
unfolding loop
returns c =
    no_more (λ n. loop (step_of (item (begins kind.Comma) (typ_of (levels c.args.readers.now.height)))) n c.loop-turn.types (terminals c.loop-turn.tokens)) c.len-turn-end.result c.loop-turn._turn c.loop-turn-test.false c.loop-turn.invariant
