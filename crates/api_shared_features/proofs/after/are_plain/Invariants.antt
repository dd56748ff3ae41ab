use Rattle.std.proofs.Common.{take}
use Rattle.go_base.specs.Lists.{Each}
use Rattle.api_shared_features.specs.inner.KeptFeatures.{IsPlain}
use Rattle.api_shared_features.proofs.after.are_plain.Given as goal

abbrev pub invariant-loop-path : goal.invariant-loop-path
invariant-loop-path l = Each IsPlain (take l.path-index l.paths)
