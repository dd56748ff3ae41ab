use Rattle.std.proofs.Common.{ℕ, length, ◌≤◌}
use Rattle.go_imports.specs.ImportPaths.{IsInternalAt}
use Rattle.go_imports.proofs.import_paths.last_internal.Given as goal

abbrev pub invariant-loop-at : goal.invariant-loop-at
invariant-loop-at l = record { within : l.at ≤ length l.path; none : (k : ℕ) → l.at ≤ k → IsInternalAt l.path k → ⊥ }

abbrev pub decreases-loop-at : goal.decreases-loop-at
decreases-loop-at l = l.at
