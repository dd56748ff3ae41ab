use Rattle.std.proofs.Common.{List, ℕ, ap, length, subst, sym, ◌∙◌}
use Rattle.go_declarations.specs.Listings.{declarations_of}
use Rattle.go_declared.proofs.Declared.{as_long}
use Rattle.go_declaration_graph.specs.declared.references.Kind.TheVariants as kind
use Rattle.go_declaration_graph.specs.inner.MethodNumbers.{tables_of}
use Rattle.go_declaration_graph.specs.inner.Orders.{IsKindRow}
use Rattle.go_declaration_graph.specs.inner.Reaching.{AreReached}
use Rattle.go_declaration_graph.specs.inner.Rows.{LeadsIn}
use Rattle.go_declaration_graph.proofs.OrderRows.{among_from, moved_on, order_from, rows_from}
use Rattle.go_declaration_graph.proofs.ReachedDeclarations.{reached_from}
use Rattle.go_declaration_graph.proofs.order.order.Goals as goal

pub returns-clause-order : goal.returns-clause-order
returns-clause-order c s u a same pathed scope =
    let xs = c.args.tables.now.declarations.now in
    let names = c.args.tables.now.names.now in
    let env = c.args.env.now in
    let reach = c.in_ok-reach.reach in
    let later = moved_on env c.kind_rows.new.env c.kind_rows-2.new.env c.kind_rows.ensures.moved c.kind_rows-2.ensures.moved in
    order_from s u a env names c.args.tables.now.methods.now (record { after = c.in_ok-after.after; lengths = c.in_ok-lengths.lengths; leads = reach.rows; reached = reach.flags }) xs same pathed scope c.requires.names c.requires.methods
    c.in_ok-after.ensures.rows
    (rows_from (IsKindRow names kind.InLengths) env c.kind_rows.new.env (declarations_of xs) (length xs) c.in_ok-lengths.lengths c.kind_rows.ensures.moved c.in_ok-lengths.ensures.rows)
    (among_from (LeadsIn names (tables_of (declarations_of xs) c.args.tables.now.methods.now)) env c.kind_rows-2.new.env (declarations_of xs) reach.flags.items reach.rows.items later c.in_ok-reach.ensures.reach)

pub returns-clause-reached : goal.returns-clause-reached
returns-clause-reached c s u a same pathed scope =
    let xs = c.args.tables.now.declarations.now in
    let names = c.args.tables.now.names.now in
    let env = c.args.env.now in
    let reach = c.in_ok-reach.reach in
    let later = moved_on env c.kind_rows.new.env c.kind_rows-2.new.env c.kind_rows.ensures.moved c.kind_rows-2.ensures.moved in
    let order =
    order_from s u a env names c.args.tables.now.methods.now (record { after = c.in_ok-after.after; lengths = c.in_ok-lengths.lengths; leads = reach.rows; reached = reach.flags }) xs same pathed scope c.requires.names c.requires.methods
    c.in_ok-after.ensures.rows
    (rows_from (IsKindRow names kind.InLengths) env c.kind_rows.new.env (declarations_of xs) (length xs) c.in_ok-lengths.lengths c.kind_rows.ensures.moved c.in_ok-lengths.ensures.rows)
    (among_from (LeadsIn names (tables_of (declarations_of xs) c.args.tables.now.methods.now)) env c.kind_rows-2.new.env (declarations_of xs) reach.flags.items reach.rows.items later c.in_ok-reach.ensures.reach) in
    reached_from s u a (record { after = c.in_ok-after.after; lengths = c.in_ok-lengths.lengths; leads = reach.rows; reached = reach.flags }) (length xs) (sym (as_long xs) ∙ ap length (sym same)) order
    (subst (λ (ls : List (List ℕ)). AreReached ls (length xs) reach.flags.items reach.rows.items) c.items.ensures c.in_ok-reach.ensures.reached)

pub returns-clause-moved : goal.returns-clause-moved
returns-clause-moved c =
    let env = c.args.env.now in
    moved_on env c.kind_rows-2.new.env c.reach_of.new.env (moved_on env c.kind_rows.new.env c.kind_rows-2.new.env c.kind_rows.ensures.moved c.kind_rows-2.ensures.moved) c.reach_of.ensures.moved
