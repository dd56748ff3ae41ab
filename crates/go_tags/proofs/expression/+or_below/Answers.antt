use Rattle.std.proofs.Common.{◌≡◌, ap, arith}
use Rattle.go_tags.specs.inner.RecursiveDescent.{or_below}
use Rattle.go_tags.proofs.RemainingTurns.{above}
use Rattle.go_tags.proofs.expression.+or_below.Goals as goal

pub returns-then-depth-eq0 : goal.returns-then-depth-eq0
unfolding or_below
returns-then-depth-eq0 t c = let none : c.args.depth ≡ 0 = omega arith in ap (λ n. or_below n c.args.parts.now) none

pub returns : goal.returns
unfolding or_below
returns t c = rw (above (λ n. or_below n c.args.parts.now) c.args.depth (omega arith)) c.or.ensures
