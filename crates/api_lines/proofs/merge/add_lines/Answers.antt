use Rattle.api_lines.specs.inner.AddedLines.{IsAdded}
use Rattle.api_lines.proofs.Growing.{grows_next}
use Rattle.api_lines.proofs.merge.add_lines.Goals as goal

pub loop-line-preserved : goal.loop-line-preserved
loop-line-preserved c =
    grows_next (IsAdded c.args.common.now c.args.context) c.args.lines.now c.loop-line.line-index c.line-item.result _ c.loop-line.merged c.add_line.new.merged c.loop-line-test.true c.line-item.is c.loop-line.invariant c.in_ok-add_line.ensures
