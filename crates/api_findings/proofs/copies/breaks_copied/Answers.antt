use Rattle.api_lines.proofs.CopiedItems.{copied_all, copied_next}
use Rattle.api_findings.proofs.copies.breaks_copied.Goals as goal

pub loop-broken-preserved : goal.loop-broken-preserved
loop-broken-preserved c =
    copied_next c.args.breaks.now c.loop-broken.broken-index c.broken-item.result c.in_ok-same.same c.loop-broken.copy c.push.new.self c.loop-broken-test.true c.broken-item.is c.in_ok-same.ensures c.in_ok-push.ensures.ok c.loop-broken.invariant

pub returns : goal.returns
returns c = copied_all c.args.breaks.now c.loop-broken.broken-index c.loop-broken.copy c.loop-broken-test.false c.loop-broken.invariant
