use Rattle.std.proofs.Common.{take}
use Rattle.go_base.specs.Lists.{Each}
use Rattle.api_features.specs.inner.FeatureLines.{IsNotEmbedded}
use Rattle.api_features.proofs.method_lines.none_embedded.Given as goal

abbrev pub invariant-loop-field : goal.invariant-loop-field
invariant-loop-field l = Each IsNotEmbedded (take l.field-index l.fields)
