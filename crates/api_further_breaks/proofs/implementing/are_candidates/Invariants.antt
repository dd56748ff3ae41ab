use Rattle.std.proofs.Common.{take}
use Rattle.go_selectors.specs.Candidates.{AreCandidates}
use Rattle.api_further_breaks.proofs.implementing.are_candidates.Given as goal

abbrev pub invariant-loop-method : goal.invariant-loop-method
invariant-loop-method l = AreCandidates l.callable (take l.method-index l.methods)
