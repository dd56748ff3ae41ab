use Rattle.std.proofs.Common.{List, length, subst, sym, ◌∙◌, arith}
use Rattle.std.proofs.lemmas.Bool.Decides.{nat_tests}
use Rattle.go_declared.proofs.Declared.{as_long}
use Rattle.go_declarations.specs.Listings.{declarations_of}
use Rattle.go_declaration_graph.specs.inner.MethodNumbers.{Numbered, tables_of}
use Rattle.go_declaration_graph.specs.inner.Orders.{HasReach}
use Rattle.go_declaration_graph.specs.inner.Rows.{LeadsIn}
use Rattle.go_declaration_graph.proofs.OrderRows.{among_none}
use Rattle.go_declaration_graph.proofs.PendingNumbers.{pending_none, reached_all}
use Rattle.go_declaration_graph.proofs.order.reach_of.Goals as goal

pub returns-then-is_empty-clause-reach : goal.returns-then-is_empty-clause-reach
returns-then-is_empty-clause-reach c =
    let xs = c.args.tables.now.declarations.now in
    let reach = c.in_ok-reach.reach in
    among_none (LeadsIn c.args.tables.now.names.now (tables_of (declarations_of xs) c.args.tables.now.methods.now)) c.args.env.now (declarations_of xs) (length xs) reach.flags.items reach.rows.items c.in_ok-reach.ensures.rows (sym (as_long xs)) c.in_ok-reach.ensures.flags

pub returns-clause-reach : goal.returns-clause-reach
returns-clause-reach c =
    let xs = c.args.tables.now.declarations.now in
    let reach = c.in_ok-reach.reach in
    let tables = c.in_ok-index.index.tables in
    subst (λ (ts : List Numbered). HasReach c.args.tables.now.names.now ts c.args.env.now (declarations_of xs) c.follow.new.reach) c.in_ok-index.ensures
    (c.in_ok-follow.ensures.reach
    (among_none (LeadsIn c.args.tables.now.names.now tables) c.args.env.now (declarations_of xs) (length xs) reach.flags.items reach.rows.items c.in_ok-reach.ensures.rows (sym (as_long xs)) c.in_ok-reach.ensures.flags))

pub returns-then-is_empty-clause-reached : goal.returns-then-is_empty-clause-reached
returns-then-is_empty-clause-reached c =
    let reach = c.in_ok-reach.reach in
    let many = length c.args.tables.now.declarations.now in
    let none = sym c.is_empty.ensures ∙ c.if-is_empty.true in
    reached_all c.args.lengths.now many c.in_ok-pending.pending.items 0 reach.flags.items reach.rows.items (grind (arith, nat_tests, none))
    (pending_none c.args.lengths.now many c.in_ok-pending.pending.items reach.flags.items reach.rows.items c.in_ok-pending.ensures c.in_ok-reach.ensures.rows c.in_ok-reach.ensures.flags)

pub returns-clause-reached : goal.returns-clause-reached
returns-clause-reached c =
    let reach = c.in_ok-reach.reach in
    c.in_ok-follow.ensures.reached c.args.lengths.now
    (pending_none c.args.lengths.now (length c.args.tables.now.declarations.now) c.in_ok-pending.pending.items reach.flags.items reach.rows.items c.in_ok-pending.ensures c.in_ok-reach.ensures.rows c.in_ok-reach.ensures.flags)
