use Rattle.std.proofs.Common.{◌≡◌, length, drop, subst, sym, refl, arith}
use Rattle.go_graphs.specs.inner.Components.{TurnsRound}
use Rattle.go_graphs.proofs.Members.{written}
use Rattle.go_graphs.proofs.TurnedRows.{turned_next, turned_start}
use Rattle.go_graphs.proofs.rows.reversed.Goals as goal

pub loop-number-init : goal.loop-number-init
loop-number-init c = turned_start c.args.rows.now c.in_ok-turned.turned.items (length c.args.rows.now) c.in_ok-turned.ensures refl

pub loop-number-preserved : goal.loop-number-preserved
loop-number-preserved c =
    let new = c.add_to_rows.new.rows in
    let a = c.add_to_rows.auto.rows in
    let b = c.deref_mut.ensures.len in
    let s : c.in-Ok.source ≡ c.loop-number.number = grind arith in
    subst (TurnsRound c.args.rows.now) (sym (written new (drop (length new) c.loop-number.turned.items) c.loop-number.turned.len (omega (arith, a, b))))
    (turned_next c.args.rows.now c.deref_mut.result.now new c.row.result.now c.loop-number.number c.in-Ok.source (subst (TurnsRound c.args.rows.now) (sym c.deref_mut.ensures.value) c.loop-number.invariant) (omega (arith, a)) c.in_ok-add_to_rows.ensures c.row.ensures s)
