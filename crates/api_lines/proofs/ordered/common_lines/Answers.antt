use Rattle.api_lines.proofs.Parts.{all_next}
use Rattle.api_lines.proofs.ordered.common_lines.Goals as goal

pub loop-lines-preserved : goal.loop-lines-preserved
loop-lines-preserved c =
    all_next c.args.platform c.args.first c.args.others.now c.loop-lines.lines-index c.lines-item.result c.items.result.now c.loop-lines.common c.in_ok-common.common c.args.merged.now c.loop-lines.merged c.part.new.merged c.loop-lines-test.true c.lines-item.is
    c.items.ensures c.loop-lines.invariant c.in_ok-common.ensures.common c.in_ok-common.ensures.own
