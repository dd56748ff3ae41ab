use Rattle.std.proofs.Common.{take}
use Rattle.api_shared_features.specs.inner.KeptFeatures.{IsPlain}
use Rattle.api_shared_features.proofs.after.is_plain.Given as goal

abbrev pub invariant-loop-byte : goal.invariant-loop-byte
invariant-loop-byte l = IsPlain (take l.byte-index l.path)
