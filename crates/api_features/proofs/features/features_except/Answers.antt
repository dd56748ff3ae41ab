use Rattle.std.proofs.Common.{ℕ, [], List, subst}
use Rattle.go_base.specs.Growing.{Grows}
use Rattle.go_base.specs.Lists.{Has}
use Rattle.go_base.proofs.Lists.{take_past}
use Rattle.go_model.specs.declared.types.package.Package.{Package}
use Rattle.api_features.specs.inner.FeatureLines.{IsPackageLine}
use Rattle.api_features.proofs.FeatureSets.{others_listed}
use Rattle.api_lines.proofs.Growing.{grows_next, OfSome}
use Rattle.api_features.proofs.features.features_except.Goals as goal

pub loop-package-preserved : goal.loop-package-preserved
loop-package-preserved c =
    grows_next (IsPackageLine c.in_ok-public.public c.args.except.now c.args.world.now) c.packages-packages.result.now c.loop-package.package-index c.package-item.result [] c.loop-package.lines c.add_package.new.lines c.loop-package-test.true c.package-item.is c.loop-package.invariant c.in_ok-add_package.ensures

pub returns : goal.returns
returns c =
    others_listed c.args.world.now c.in_ok-public.public c.args.except.now c.loop-package.lines c.in_ok-listed.listed
    (subst (λ (w : List (List ℕ)). Grows (Has w) [] c.in_ok-public.public) c.public.ensures c.in_ok-public.ensures)
    (subst (λ (w : List Package). Grows (OfSome (IsPackageLine c.in_ok-public.public c.args.except.now c.args.world.now) w) [] c.loop-package.lines) c.packages-packages.ensures.packages
    (subst (λ (w : List Package). Grows (OfSome (IsPackageLine c.in_ok-public.public c.args.except.now c.args.world.now) w) [] c.loop-package.lines) (take_past c.loop-package.package-index c.packages-packages.result.now c.loop-package-test.false) c.loop-package.invariant))
    c.in_ok-listed.ensures
