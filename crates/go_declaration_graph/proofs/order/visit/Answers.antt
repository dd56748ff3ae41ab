use Rattle.std.proofs.Common.{Bool, List, arith, ap, sym, ◌∙◌}
use Rattle.go_declarations.specs.Listings.{declaration_of, declarations_of}
use Rattle.go_graphs.specs.Flags.{is_flagged}
use Rattle.go_declaration_graph.specs.inner.Rows.{LeadsIn}
use Rattle.go_declaration_graph.proofs.GraphRows.{item_at}
use Rattle.go_declaration_graph.proofs.OrderRows.{among_more}
use Rattle.go_declaration_graph.proofs.PendingNumbers.{pending_more, pending_passed}
use Rattle.go_declaration_graph.proofs.order.visit.Goals as goal

pub returns-then-flag-clause-pending : goal.returns-then-flag-clause-pending
returns-then-flag-clause-pending c starts at item p =
    let flagged = sym (c.flag.ensures ∙ ap (λ (fs : List Bool). is_flagged fs c.args.number) c.deref.ensures.value) ∙ c.if-flag.true in
    pending_passed starts _ c.args.pending.now.items at c.args.reach.now.flags.items c.args.reach.now.rows.items c.args.number item p (λ l. flagged)

pub returns-then-number-declarations-clause-pending : goal.returns-then-number-declarations-clause-pending
returns-then-number-declarations-clause-pending c starts at item p =
    let past = c.if-number-declarations.true in
    pending_passed starts _ c.args.pending.now.items at c.args.reach.now.flags.items c.args.reach.now.rows.items c.args.number item p (λ l. absurd (omega (arith, l, past)))

pub returns-clause-reach : goal.returns-clause-reach
returns-clause-reach c e moved has =
    let xs = c.args.declarations.now in
    let d = c.index-declarations-number.result in
    let row = c.in_ok-tell.ensures.row in
    among_more (LeadsIn c.args.names.now c.args.index.now.tables) e (declarations_of xs) c.args.reach.now.flags.items c.tell.new.reach.flags.items c.args.reach.now.rows.items c.tell.new.reach.rows.items c.args.number row.0 has c.args.env.now (declaration_of d)
    moved (item_at xs c.args.number d c.if-number-declarations.false c.index-declarations-number.is) c.in_ok-tell.ensures.flags row.1 row.3

pub returns-clause-pending : goal.returns-clause-pending
returns-clause-pending c starts at item p =
    let row = c.in_ok-tell.ensures.row in
    let unset = sym (c.flag.ensures ∙ ap (λ (fs : List Bool). is_flagged fs c.args.number) c.deref.ensures.value) ∙ c.if-flag.false in
    pending_more starts _ c.args.pending.now.items at c.args.reach.now.flags.items c.args.reach.now.rows.items c.args.number item p unset c.if-number-declarations.false row.0 c.tell.new.pending.items c.tell.new.reach.flags.items c.tell.new.reach.rows.items
    row.2 c.in_ok-tell.ensures.flags row.1
