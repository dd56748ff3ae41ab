use Rattle.api_frozen.specs.inner.SignedLines.{IsGain}
use Rattle.api_lines.proofs.Growing.{grows_next}
use Rattle.api_frozen.proofs.compare.add_gains.Goals as goal

pub loop-feature-preserved : goal.loop-feature-preserved
loop-feature-preserved c =
    grows_next (IsGain c.args.required.now) c.args.features.now c.loop-feature.feature-index c.feature-item.result _ c.loop-feature.lines c.add_gain.new.lines c.loop-feature-test.true c.feature-item.is c.loop-feature.invariant c.in_ok-add_gain.ensures
