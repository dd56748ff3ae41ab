use Rattle.std.proofs.Common.{ℕ, ◌-◌, ◌+◌, ◌∙◌, [], List, ap, sym}
use Rattle.go_syntax.specs.declared.types.ParameterDecl.{ParameterDecl}
use Rattle.go_syntax.specs.grammar.Terminals.{Terminal, terminals}
use Rattle.go_descent.specs.Levels.{levels}
use Rattle.go_cursor.specs.Reading.{Reader, goes_on, run, loop, step_of}
use Rattle.go_descent.specs.Rules.{parameter_of}
use Rattle.go_cursor.proofs.Handed.{handed}
use Rattle.go_cursor.proofs.Items.{item, item_stops, item_fails, item_goes_on, starts}
use Rattle.go_cursor.proofs.Turns.{one_more, no_more}
use Rattle.go_signatures.proofs.signatures.Signatures.more_unnamed.Goals as goal

abbrev read : ℕ → Reader ParameterDecl
read h = parameter_of (levels h).typ []

pub loop-turn-init : goal.loop-turn-init
loop-turn-init g c = starts (step_of (item goes_on (read c.args.self.now.grammar.now.height))) c.args.first (terminals c.args.tokens.now) c.len-turn-end.result c.len-turn-end.ensures

pub returns-then-not-goes_on : goal.returns-then-not-goes_on
returns-then-not-goes_on g c =
    let ts : List Terminal = terminals c.loop-turn.tokens in
    one_more (λ n. loop (step_of (item goes_on (read c.args.self.now.grammar.now.height))) n c.loop-turn.parameters ts) c.len-turn-end.result c.loop-turn._turn c.loop-turn-test.true c.loop-turn.invariant
    ∙ item_stops goes_on (read c.args.self.now.grammar.now.height) _ c.loop-turn.parameters ts (sym c.goes_on.ensures ∙ c.if-not-goes_on.true)

pub returns-in_err-unnamed_parameter : goal.returns-in_err-unnamed_parameter
returns-in_err-unnamed_parameter g c =
    let ts : List Terminal = terminals c.loop-turn.tokens in
    let us : List Terminal = terminals c.advance.new.self in
    handed (run (step_of (item goes_on (read c.args.self.now.grammar.now.height))) c.args.first (terminals c.args.tokens.now)) (read c.args.self.now.grammar.now.height us)
    c.in_err-unnamed_parameter.field-0.0 c.from_residual.result c.unnamed_parameter.new.tokens c.unnamed_parameter.new.tokens c.from_residual.ensures.1 c.in_err-unnamed_parameter.ensures
    (λ none.
    one_more (λ n. loop (step_of (item goes_on (read c.args.self.now.grammar.now.height))) n c.loop-turn.parameters ts) c.len-turn-end.result c.loop-turn._turn c.loop-turn-test.true c.loop-turn.invariant
    ∙ item_fails goes_on (read c.args.self.now.grammar.now.height) _ c.loop-turn.parameters ts us (sym c.goes_on.ensures ∙ c.if-not-goes_on.false) c.advance.ensures none)

pub loop-turn-preserved : goal.loop-turn-preserved
loop-turn-preserved g c =
    let ts : List Terminal = terminals c.loop-turn.tokens in
    let us : List Terminal = terminals c.advance.new.self in
    let rest : List Terminal = terminals c.unnamed_parameter.new.tokens in
    let n : ℕ = c.len-turn-end.result - (c.loop-turn._turn + 1) in
    one_more (λ n. loop (step_of (item goes_on (read c.args.self.now.grammar.now.height))) n c.loop-turn.parameters ts) c.len-turn-end.result c.loop-turn._turn c.loop-turn-test.true c.loop-turn.invariant
    ∙ item_goes_on goes_on (read c.args.self.now.grammar.now.height) n c.loop-turn.parameters ts us c.in_ok-unnamed_parameter.field-0 rest (sym c.goes_on.ensures ∙ c.if-not-goes_on.false) c.advance.ensures c.in_ok-unnamed_parameter.ensures
    ∙ ap (λ (l : List ParameterDecl). loop (step_of (item goes_on (read c.args.self.now.grammar.now.height))) n l rest) (sym c.in_ok-push.ensures.ok)

pub returns : goal.returns
unfolding loop
returns g c =
    no_more (λ n. loop (step_of (item goes_on (read c.args.self.now.grammar.now.height))) n c.loop-turn.parameters (terminals c.loop-turn.tokens)) c.len-turn-end.result c.loop-turn._turn c.loop-turn-test.false c.loop-turn.invariant
