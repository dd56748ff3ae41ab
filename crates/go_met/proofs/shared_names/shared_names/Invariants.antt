use Rattle.std.proofs.Common.{take}
use Rattle.go_declarations.specs.Listings.{declarations_of}
use Rattle.go_met.proofs.SharedNames.{AreNoted}
use Rattle.go_met.specs.inner.SharedNames.{row_names}
use Rattle.go_met.proofs.shared_names.shared_names.Given as goal

abbrev pub invariant-loop-row : goal.invariant-loop-row
invariant-loop-row l = AreNoted (row_names (declarations_of l.declarations) (take l.row-index l.rows)) l.seen.keys l.shared.keys
