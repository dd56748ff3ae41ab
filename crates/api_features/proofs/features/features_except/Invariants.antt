use Rattle.std.proofs.Common.{[], take}
use Rattle.go_base.specs.Growing.{Grows}
use Rattle.api_features.specs.inner.FeatureLines.{IsPackageLine}
use Rattle.api_lines.proofs.Growing.{OfSome}
use Rattle.api_features.proofs.features.features_except.Given as goal

abbrev pub invariant-loop-package : goal.invariant-loop-package
invariant-loop-package l = Grows (OfSome (IsPackageLine l.public l.except l.world) (take l.package-index l.packages)) [] l.lines
