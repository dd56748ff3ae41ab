use Rattle.go_declarations.specs.Listings.{declarations_of}
use Rattle.go_package_scopes.specs.KeptScopes.{IsMoved}
use Rattle.go_declaration_graph.specs.inner.Orders.{IsKindRow}
use Rattle.go_declaration_graph.specs.inner.Rows.{HasRowsOf}
use Rattle.go_declaration_graph.proofs.order.kind_rows.Given as goal

abbrev pub invariant-loop-declaration : goal.invariant-loop-declaration
invariant-loop-declaration l = IsMoved l.initial.env l.env × HasRowsOf (IsKindRow l.names l.kind) l.initial.env (declarations_of l.declarations) l.declaration-index l.rows
