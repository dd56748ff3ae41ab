use Rattle.std.proofs.Common.{take, ◌+◌, []}
use Rattle.go_selectors.proofs.Lists.{taken_next}
use Rattle.api_correspond.proofs.Growing.{of_more}
use Rattle.api_forced.specs.inner.Objects.{IsOfPath}
use Rattle.api_forced.proofs.FromObjects.{paths_begun, paths_sound, paths_complete}
use Rattle.api_forced.proofs.objects.object_pairs.Goals as goal

pub loop-path-init : goal.loop-path-init
loop-path-init c = paths_begun c.args.old.now c.args.new.now c.new-all.result.items c.new-all.ensures.items

pub loop-path-preserved : goal.loop-path-preserved
loop-path-preserved c = of_more (IsOfPath c.args.old.now c.args.new.now) (take c.loop-path.path-index c.public-paths.result.now) (take (c.loop-path.path-index + 1) c.public-paths.result.now) c.path-item.result [] c.loop-path.all.items c.push_path.new.all.items (taken_next c.public-paths.result.now c.loop-path.path-index c.path-item.result c.loop-path-test.true c.path-item.is) c.loop-path.invariant c.in_ok-push_path.ensures

pub returns-clause-sound : goal.returns-clause-sound
returns-clause-sound c = paths_sound c.args.old.now c.args.new.now c.packages-packages.ensures.world c.public-paths.result.now c.loop-path.path-index c.loop-path.all.items c.public-paths.ensures c.loop-path-test.false c.loop-path.invariant

pub returns-clause-complete : goal.returns-clause-complete
returns-clause-complete c = paths_complete c.args.old.now c.args.new.now c.packages-packages.ensures.world c.public-paths.result.now c.loop-path.path-index c.loop-path.all.items c.public-paths.ensures c.loop-path-test.false c.loop-path.invariant
