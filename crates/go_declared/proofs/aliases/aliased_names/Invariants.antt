use Rattle.go_declarations.specs.Listings.{declarations_of}
use Rattle.go_declared.specs.AliasEnds.{aliased_at}
use Rattle.go_declared.specs.inner.NextAliases.{AreNames}
use Rattle.go_declared.proofs.aliases.aliased_names.Given as goal

abbrev pub invariant-loop-number : goal.invariant-loop-number
invariant-loop-number l = AreNames l.number (aliased_at (declarations_of l.declarations)) l.names.items
