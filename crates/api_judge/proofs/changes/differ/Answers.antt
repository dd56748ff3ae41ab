use Rattle.std.proofs.Common.{refl}
use Rattle.api_judge.proofs.LineTexts.{apart_here}
use Rattle.api_judge.proofs.changes.differ.Goals as goal

pub returns-then-not-same : goal.returns-then-not-same
returns-then-not-same c = (
  (λ t. apart_here c.args.before.now c.args.after.now c.loop-i.i c.index-before-i.result c.index-after-i.result c.in_ok-same.same c.loop-i-test.true c.if-before-after.false c.index-before-i.is c.index-after-i.is c.in_ok-same.ensures c.if-not-same.true),
  (λ n. refl),
)
