use Rattle.std.proofs.Common.{◌≡◌, ◌∙◌, ap, length, drop, arith, Bool, ℕ, List, subst, sym}
use Rattle.go_base.specs.Lists.{Has}
use Rattle.go_graphs.proofs.Members.{written}
use Rattle.go_graphs.specs.Walks.{row_of}
use Rattle.go_reach.specs.Numbers.{AreFlagged}
use Rattle.go_reach.specs.inner.Search.{AreMet, Meets}
use Rattle.go_reach.proofs.Searching.{met_all, met_first, met_next}
use Rattle.go_reach.proofs.reached.reached.Goals as goal

pub loop-init : goal.loop-init
loop-init c =
    let xs = c.args.flags.items in
    let a = c.len.ensures in
    let b = c.deref.ensures.len in
    let d = ap length c.deref.ensures.value in
    let count : c.len.result ≡ length xs = omega (arith, a, b, d) in
    met_first c.args.rows.now xs c.in_ok-pending.pending.items
    (subst (λ (k : ℕ). AreFlagged xs k c.in_ok-pending.pending.items) count (subst (λ (ys : List Bool). AreFlagged ys c.len.result c.in_ok-pending.pending.items) c.deref.ensures.value c.in_ok-pending.ensures))

pub returns-in-None : goal.returns-in-None
returns-in-None c size = met_all c.args.rows.now c.args.flags.items c.loop.flags.items size (subst (λ (xs : List ℕ). AreMet c.args.rows.now c.args.flags.items c.loop.flags.items xs) c.in-None.ensures c.loop.invariant)

pub loop-preserved : goal.loop-preserved
loop-preserved c =
    let new = c.meet_row.new.flags in
    let a = c.meet_row.auto.flags in
    let b = c.deref_mut.ensures.len in
    let same = written new (drop (length new) c.loop.flags.items) c.loop.flags.len (omega (arith, a, b)) in
    subst (λ (xs : List Bool). AreMet c.args.rows.now c.args.flags.items xs c.meet_row.new.pending.items) (sym same)
    (met_next c.args.rows.now c.args.flags.items c.loop.flags.items c.loop.pending.items c.next.new.pending.items c.in-Some.number new c.meet_row.new.pending.items (a ∙ ap length c.deref_mut.ensures.value) c.in-Some.ensures c.loop.invariant
    (subst (λ (xs : List Bool). Meets (Has (row_of c.args.rows.now c.in-Some.number)) xs c.next.new.pending.items new c.meet_row.new.pending.items) c.deref_mut.ensures.value
    (subst (λ (xs : List ℕ). Meets (Has xs) c.deref_mut.result.now c.next.new.pending.items new c.meet_row.new.pending.items) c.row.ensures c.in_ok-meet_row-in-Some.ensures)))
