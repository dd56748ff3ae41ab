use Rattle.std.proofs.Common.{[], take}
use Rattle.go_base.specs.Growing.{Grows}
use Rattle.api_shared_features.specs.inner.KeptFeatures.{IsSomeTakenAndPublic}
use Rattle.api_shared_features.proofs.after.public_taken.Given as goal

abbrev pub invariant-loop-path : goal.invariant-loop-path
invariant-loop-path l = Grows (IsSomeTakenAndPublic l.taken.keys l.public (take l.path-index l.paths)) [] l.kept
