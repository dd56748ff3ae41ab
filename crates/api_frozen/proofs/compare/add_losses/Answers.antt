use Rattle.api_frozen.specs.inner.SignedLines.{IsLoss}
use Rattle.api_lines.proofs.Growing.{grows_next}
use Rattle.api_frozen.proofs.compare.add_losses.Goals as goal

pub loop-text-preserved : goal.loop-text-preserved
loop-text-preserved c =
    grows_next (IsLoss c.args.held.now c.args.exceptions.now) c.args.required.now c.loop-text.text-index c.text-item.result _ c.loop-text.lines c.add_loss.new.lines c.loop-text-test.true c.text-item.is c.loop-text.invariant c.in_ok-add_loss.ensures
