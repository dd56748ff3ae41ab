use Rattle.std.proofs.Common.{◌≡◌, drop, sym, subst, ◌∙◌, true, false, List, ℕ, arith}
use Rattle.go_lex.specs.inner.DigitLengths.{goes_on}
use Rattle.go_lex.proofs.DigitRuns.{more_at, more_stop}
use Rattle.go_lex.proofs.digits.more_len.Goals as goal

pub loop-at-preserved : goal.loop-at-preserved
loop-at-preserved c =
    let here : goes_on c.args.base (drop c.loop-at.at c.args.bytes.now) ≡ true = subst (λ (xs : List ℕ). goes_on c.args.base xs ≡ true) c.past.ensures (sym c.goes_on.ensures ∙ c.loop-at-test.true) in
    let step = more_at c.args.base c.loop-at.at c.args.bytes.now here in
    record { within = omega (arith, step.0); so_far = omega (arith, step.1, c.loop-at.invariant.so_far) }

pub returns-clause-value : goal.returns-clause-value
returns-clause-value c =
    let here : goes_on c.args.base (drop c.loop-at.at c.args.bytes.now) ≡ false = subst (λ (xs : List ℕ). goes_on c.args.base xs ≡ false) c.past.ensures (sym c.goes_on.ensures ∙ c.loop-at-test.false) in
    omega (arith, more_stop c.args.base (drop c.loop-at.at c.args.bytes.now) here, c.loop-at.invariant.so_far)
