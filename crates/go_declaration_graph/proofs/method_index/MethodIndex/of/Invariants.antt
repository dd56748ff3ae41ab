use Rattle.std.proofs.Common.{◌≡◌, ◌++◌, drop}
use Rattle.go_declarations.specs.Listings.{declarations_of}
use Rattle.go_declaration_graph.specs.inner.MethodNumbers.{tables_from, tables_of}
use Rattle.go_declaration_graph.proofs.method_index.MethodIndex.of.Given as goal

abbrev pub invariant-loop-declaration : goal.invariant-loop-declaration
invariant-loop-declaration l =
    l.tables ++ tables_from (declarations_of l.declarations) l.methods (declarations_of (drop l.declaration-index l.declarations))
    ≡ tables_of (declarations_of l.declarations) l.methods
