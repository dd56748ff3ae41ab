use Rattle.std.proofs.Common.{ℕ, List, length}
use Rattle.go_declarations.specs.Listings.{declarations_of}
use Rattle.go_package_scopes.specs.KeptScopes.{IsMoved}
use Rattle.go_declaration_graph.specs.inner.Orders.{HasReach}
use Rattle.go_declaration_graph.specs.inner.Reaching.{ArePending}
use Rattle.go_declaration_graph.proofs.order.follow.Given as goal

abbrev pub invariant-loop-at : goal.invariant-loop-at
invariant-loop-at l = IsMoved l.initial.env l.env
    × (HasReach l.names l.index.tables l.initial.env (declarations_of l.declarations) l.initial.reach → HasReach l.names l.index.tables l.initial.env (declarations_of l.declarations) l.reach)
    × ((starts : List (List ℕ)) → ArePending starts (length l.declarations) l.initial.pending.items 0 l.initial.reach.flags.items l.initial.reach.rows.items
    → ArePending starts (length l.declarations) l.pending.items l.at l.reach.flags.items l.reach.rows.items)
