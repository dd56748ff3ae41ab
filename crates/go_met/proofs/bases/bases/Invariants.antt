use Rattle.go_declarations.specs.Listings.{declarations_of}
use Rattle.go_met.specs.inner.ToldBases.{AreTold}
use Rattle.go_met.proofs.bases.bases.Given as goal

abbrev pub invariant-loop-number : goal.invariant-loop-number
invariant-loop-number l = AreTold (declarations_of l.tables.declarations.now) l.tables.names.now l.tables.methods.now l.number l.told.items
