use Rattle.std.proofs.Common.{[]}
use Rattle.api_lines.proofs.Growing.{grows_next}
use Rattle.api_shared_features.specs.inner.KeptFeatures.{IsTakenAndPublic}
use Rattle.api_shared_features.proofs.after.public_taken.Goals as goal

pub loop-path-preserved : goal.loop-path-preserved
loop-path-preserved c =
    grows_next (IsTakenAndPublic c.args.taken.now.keys c.args.public.now) c.args.paths.now c.loop-path.path-index c.path-item.result [] c.loop-path.kept c.add_kept.new.kept c.loop-path-test.true c.path-item.is c.loop-path.invariant c.in_ok-add_kept.ensures
