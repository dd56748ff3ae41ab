use Rattle.std.proofs.Common.{length, ◌-◌}
use Rattle.go_outside.proofs.FolderEntries.{SoFar}
use Rattle.go_outside.proofs.memory_files.listing.entries.Given as goal

abbrev pub invariant-loop-at : goal.invariant-loop-at
invariant-loop-at l = SoFar l.pairs l.folder l.at l.entries

abbrev pub decreases-loop-at : goal.decreases-loop-at
decreases-loop-at l = length l.pairs - l.at
