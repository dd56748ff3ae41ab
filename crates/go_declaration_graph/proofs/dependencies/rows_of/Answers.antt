use Rattle.std.proofs.Common.{◌+◌, List, ℕ, subst, sym, take}
use Rattle.go_declaration_graph.proofs.DependencyRows.{rows_next}
use Rattle.go_declaration_graph.specs.inner.DependencyRows.{HasDependencies}
use Rattle.go_declarations.specs.Listings.{declarations_of}
use Rattle.go_declaration_graph.proofs.dependencies.rows_of.Goals as goal

pub loop-declaration-preserved : goal.loop-declaration-preserved
loop-declaration-preserved c =
    subst (λ (rows : List (List ℕ)). HasDependencies c.args.names.now c.args.methods.now (declarations_of (take (c.loop-declaration.declaration-index + 1) c.args.declarations.now)) rows) (sym c.in_ok-push.ensures.ok)
    (rows_next c.args.names.now c.args.methods.now c.args.declarations.now c.loop-declaration.declaration-index c.declaration-item.result c.loop-declaration.rows c.in_ok-row.row c.loop-declaration-test.true c.declaration-item.is c.loop-declaration.invariant
    c.in_ok-row.ensures)
