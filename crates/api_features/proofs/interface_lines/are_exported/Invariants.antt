use Rattle.std.proofs.Common.{take}
use Rattle.go_base.specs.Lists.{Each}
use Rattle.api_features.specs.inner.FeatureLines.{IsExportedMethod}
use Rattle.api_features.proofs.interface_lines.are_exported.Given as goal

abbrev pub invariant-loop-method : goal.invariant-loop-method
invariant-loop-method l = Each IsExportedMethod (take l.method-index l.methods)
