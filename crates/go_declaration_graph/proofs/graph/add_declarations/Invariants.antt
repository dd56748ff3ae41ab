use Rattle.go_declarations.specs.Listings.{declarations_of}
use Rattle.go_package_scopes.specs.KeptScopes.{IsMoved}
use Rattle.go_declaration_graph.specs.inner.Rows.{HasRows}
use Rattle.go_declaration_graph.proofs.graph.add_declarations.Given as goal

abbrev pub invariant-loop-declaration : goal.invariant-loop-declaration
invariant-loop-declaration l = IsMoved l.initial.env l.env × HasRows l.names l.methods l.index.tables l.initial.env (declarations_of l.declarations) l.declaration-index l.graph
