use Rattle.std.proofs.Common.{◌≡◌, ◌∙◌, ℕ, suc, ◌+◌, ◌-◌, List, drop, get_or, ap, sym, arith}
use Rattle.go_bodies.specs.Reading.{Progress, literals, opened, progress}
use Rattle.go_bodies.proofs.Handing.{goes_no_further, goes_not}
use Rattle.go_bodies.proofs.Outcomes.{from_place, goes_on, no_height, not_opened, not_read, no_place, past_all}
use Rattle.go_bodies.proofs.literals.+read.Goals as goal
use Rattle.go_function_literals.specs.declared.place.LiteralPlace.{LiteralPlace}
use Rattle.go_syntax.specs.grammar.Terminals.{terminals}

pub returns-then-most-eq0 : goal.returns-then-most-eq0
returns-then-most-eq0 t c =
    let ps : List LiteralPlace = c.args.places.now in
    let i : ℕ = c.loop-place.place-index in
    let p : LiteralPlace = get_or ps i no_place in
    let s : Progress = progress (terminals c.loop-place.ahead) c.loop-place.found in
    c.loop-place.invariant ∙ ap (λ (l : List LiteralPlace). literals c.args.most l s) (from_place ps i c.loop-place-test.true) ∙ no_height c.args.most p (drop (i + 1) ps) s (omega arith)

pub returns-in_err-inner : goal.returns-in_err-inner
returns-in_err-inner t c =
    let ps : List LiteralPlace = c.args.places.now in
    let i : ℕ = c.loop-place.place-index in
    let p : LiteralPlace = get_or ps i no_place in
    let s : Progress = progress (terminals c.loop-place.ahead) c.loop-place.found in
    let h : c.args.most ≡ suc (c.args.most - 1) = omega arith in
    goes_not (literals c.args.most ps (progress (terminals c.args.ahead.now) c.args.found.now)) (opened (c.args.most - 1) p s) c.in_err-inner.field-0.0 c.from_residual.result c.open_literal.new.ahead c.open_literal.new.ahead c.open_literal.new.found c.open_literal.new.found
    c.from_residual.ensures.1 c.in_err-inner.ensures
    (λ e. c.loop-place.invariant ∙ ap (λ (l : List LiteralPlace). literals c.args.most l s) (from_place ps i c.loop-place-test.true) ∙ not_opened c.args.most (c.args.most - 1) p (drop (i + 1) ps) s h e)

pub returns-in_err-read : goal.returns-in_err-read
returns-in_err-read t c =
    let ps : List LiteralPlace = c.args.places.now in
    let i : ℕ = c.loop-place.place-index in
    let p : LiteralPlace = get_or ps i no_place in
    let s : Progress = progress (terminals c.loop-place.ahead) c.loop-place.found in
    let u : Progress = progress (terminals c.open_literal.new.ahead) c.open_literal.new.found in
    let h : c.args.most ≡ suc (c.args.most - 1) = omega arith in
    goes_no_further (literals c.args.most ps (progress (terminals c.args.ahead.now) c.args.found.now)) (literals (c.args.most - 1) c.items.result.now u) c.in_err-read.field-0.0 c.from_residual-in_err-read.result c.read.new.ahead c.read.new.ahead c.read.new.found c.read.new.found
    c.from_residual-in_err-read.ensures.1 c.in_err-read.ensures
    (λ e. c.loop-place.invariant ∙ ap (λ (l : List LiteralPlace). literals c.args.most l s) (from_place ps i c.loop-place-test.true)
    ∙ not_read c.args.most (c.args.most - 1) p (drop (i + 1) ps) s h c.in_ok-inner.inner u c.in_ok-inner.ensures (ap (λ (l : List LiteralPlace). literals (c.args.most - 1) l u) (sym c.items.ensures) ∙ e))

pub loop-place-preserved : goal.loop-place-preserved
loop-place-preserved t c =
    let ps : List LiteralPlace = c.args.places.now in
    let i : ℕ = c.loop-place.place-index in
    let p : LiteralPlace = get_or ps i no_place in
    let s : Progress = progress (terminals c.loop-place.ahead) c.loop-place.found in
    let u : Progress = progress (terminals c.open_literal.new.ahead) c.open_literal.new.found in
    let end : Progress = progress (terminals c.read.new.ahead) c.read.new.found in
    let h : c.args.most ≡ suc (c.args.most - 1) = omega arith in
    c.loop-place.invariant ∙ ap (λ (l : List LiteralPlace). literals c.args.most l s) (from_place ps i c.loop-place-test.true)
    ∙ goes_on c.args.most (c.args.most - 1) p (drop (i + 1) ps) s h c.in_ok-inner.inner u end c.in_ok-inner.ensures (ap (λ (l : List LiteralPlace). literals (c.args.most - 1) l u) (sym c.items.ensures) ∙ c.in_ok-read.ensures)

pub returns : goal.returns
returns t c =
    let ps : List LiteralPlace = c.args.places.now in
    let s : Progress = progress (terminals c.loop-place.ahead) c.loop-place.found in
    c.loop-place.invariant ∙ past_all c.args.most ps c.loop-place.place-index s c.loop-place-test.false
