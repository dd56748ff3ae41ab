use Rattle.std.proofs.Common.{ℕ, arith, subst}
use Rattle.go_declarations.specs.Listings.{declaration_of, declarations_of}
use Rattle.go_declaration_graph.specs.inner.Orders.{IsKindRow}
use Rattle.go_declaration_graph.specs.inner.Rows.{HasRowsOf}
use Rattle.go_declaration_graph.proofs.GraphRows.{item_at, moved_next}
use Rattle.go_declaration_graph.proofs.OrderRows.{rows_more}
use Rattle.go_declaration_graph.proofs.order.kind_rows.Goals as goal

pub loop-declaration-preserved : goal.loop-declaration-preserved
loop-declaration-preserved c =
    let xs = c.args.declarations.now in
    let i = c.loop-declaration.declaration-index in
    let x = c.declaration-item.result in
    let added = c.in_ok-add_row.ensures.row in (
      moved_next c.args.env.now c.loop-declaration.env c.add_row.new.env (declaration_of x) c.loop-declaration.invariant.0 c.add_row.ensures.moved,
      rows_more (IsKindRow c.args.names.now c.args.kind) c.args.env.now (declarations_of xs) i c.loop-declaration.rows c.add_row.new.rows added.0 c.loop-declaration.invariant.1 c.loop-declaration.env (declaration_of x)
          c.loop-declaration.invariant.0 (item_at xs i x c.loop-declaration-test.true c.declaration-item.is) added.1 added.2,
    )

pub returns-clause-rows : goal.returns-clause-rows
returns-clause-rows c =
    subst (λ (n : ℕ). HasRowsOf (IsKindRow c.args.names.now c.args.kind) c.args.env.now (declarations_of c.args.declarations.now) n c.loop-declaration.rows)
    (let h = c.loop-declaration-test.false in let k = c.loop-declaration.auto.declaration-index-end in omega (arith, h, k)) c.loop-declaration.invariant.1
