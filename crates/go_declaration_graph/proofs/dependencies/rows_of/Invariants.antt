use Rattle.std.proofs.Common.{take}
use Rattle.go_declaration_graph.specs.inner.DependencyRows.{HasDependencies}
use Rattle.go_declarations.specs.Listings.{declarations_of}
use Rattle.go_declaration_graph.proofs.dependencies.rows_of.Given as goal

abbrev pub invariant-loop-declaration : goal.invariant-loop-declaration
invariant-loop-declaration l = HasDependencies l.names l.methods (declarations_of (take l.declaration-index l.declarations)) l.rows
