use Rattle.std.proofs.Common.{take}
use Rattle.go_base.specs.Lists.{Has}
use Rattle.go_declarations.specs.Listings.{declarations_of}
use Rattle.go_met.specs.inner.ToldBases.{TellsRows}
use Rattle.go_met.proofs.bases.tell_rows.Given as goal

abbrev pub invariant-loop-row : goal.invariant-loop-row
invariant-loop-row l = TellsRows (declarations_of l.declarations) (Has l.shared.keys) l.name (take l.row-index l.rows) l.initial.told.items l.told.items
