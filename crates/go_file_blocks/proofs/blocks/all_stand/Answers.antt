use Rattle.std.proofs.Common.{◌∙◌, ℕ, ◌+◌, List, drop, get_or, ap, sym}
use Rattle.go_bodies.proofs.Outcomes.{from_place, no_place}
use Rattle.go_file_blocks.specs.FileReading.{all_stand}
use Rattle.go_file_blocks.proofs.FileOutcomes.{stand_all, stands_not, stands_on}
use Rattle.go_file_blocks.proofs.blocks.all_stand.Goals as goal
use Rattle.go_function_literals.specs.declared.place.LiteralPlace.{LiteralPlace}
use Rattle.go_syntax.specs.declared.token.Token.{Token}
use Rattle.go_syntax.specs.grammar.Terminals.{Terminal, terminals}

pub loop-place-init : goal.loop-place-init
loop-place-init c = ap (λ (l : List Token). all_stand (terminals l) c.args.places.now) (sym c.fork-ahead.ensures)

pub returns-then-not-branch : goal.returns-then-not-branch
returns-then-not-branch c =
    let ps : List LiteralPlace = c.args.places.now in
    let i : ℕ = c.loop-place.place-index in
    let p : LiteralPlace = get_or ps i no_place in
    let ts : List Terminal = terminals c.loop-place.ahead in
    sym (c.loop-place.invariant ∙ ap (all_stand ts) (from_place ps i c.loop-place-test.true)
    ∙ stands_not ts (terminals c.to_brace.new.tokens) p (drop (i + 1) ps) c.to_brace.ensures (sym c.in_ok-is_range.ensures ∙ c.if-not-branch.true))

pub loop-place-preserved : goal.loop-place-preserved
loop-place-preserved c =
    let ps : List LiteralPlace = c.args.places.now in
    let i : ℕ = c.loop-place.place-index in
    let p : LiteralPlace = get_or ps i no_place in
    let ts : List Terminal = terminals c.loop-place.ahead in
    c.loop-place.invariant ∙ ap (all_stand ts) (from_place ps i c.loop-place-test.true)
    ∙ stands_on ts (terminals c.to_brace.new.tokens) p (drop (i + 1) ps) c.to_brace.ensures (terminals c.advance.new.self) (sym c.in_ok-is_range.ensures ∙ c.if-not-branch.false) c.advance.ensures

pub returns : goal.returns
returns c = sym (c.loop-place.invariant ∙ stand_all (terminals c.loop-place.ahead) c.args.places.now c.loop-place.place-index c.loop-place-test.false)
