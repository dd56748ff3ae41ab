use Rattle.std.proofs.Common.{take, ◌+◌, []}
use Rattle.go_selectors.proofs.Lists.{taken_next}
use Rattle.api_correspond.proofs.Growing.{of_more}
use Rattle.api_breaks.specs.inner.Objects.{IsOfPath}
use Rattle.api_breaks.proofs.PackageBreaks.{paths_begun, paths_exact, paths_kept}
use Rattle.api_breaks.proofs.packages.package_breaks.Goals as goal

pub loop-path-init : goal.loop-path-init
loop-path-init c = paths_begun c.args.old.now c.args.new.now c.new-breaks.result.items c.new-breaks.ensures.items

pub loop-path-preserved : goal.loop-path-preserved
loop-path-preserved c = of_more (IsOfPath c.args.old.now c.args.new.now) (take c.loop-path.path-index c.public-paths.result.now) (take (c.loop-path.path-index + 1) c.public-paths.result.now) c.path-item.result [] c.loop-path.breaks.items c.push_path.new.breaks.items (taken_next c.public-paths.result.now c.loop-path.path-index c.path-item.result c.loop-path-test.true c.path-item.is) c.loop-path.invariant c.in_ok-push_path.ensures

pub returns-clause-exact : goal.returns-clause-exact
returns-clause-exact c = paths_exact c.args.old.now c.args.new.now c.packages-packages.ensures.world c.packages-later.ensures.world c.public-paths.result.now c.loop-path.path-index c.loop-path.breaks.items c.public-paths.ensures c.loop-path-test.false c.loop-path.invariant

pub returns-clause-kept : goal.returns-clause-kept
returns-clause-kept c = paths_kept c.args.old.now c.args.new.now c.packages-packages.ensures.world c.packages-later.ensures.world c.loop-path.breaks.items (paths_exact c.args.old.now c.args.new.now c.packages-packages.ensures.world c.packages-later.ensures.world c.public-paths.result.now c.loop-path.path-index c.loop-path.breaks.items c.public-paths.ensures c.loop-path-test.false c.loop-path.invariant)
