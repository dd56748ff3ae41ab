use Rattle.std.proofs.Common.{◌≤◌, ℕ, List, subst, sym, length, arith}
use mathlib.Core.Bool.{true≢false}
use Rattle.go_imports.specs.inner.Sorting.{Sorting}
use Rattle.go_imports.proofs.Members.{above_least, no_items}
use Rattle.go_imports.proofs.Sorted.{sorting_first, sorting_as, none_ready}
use Rattle.go_imports.proofs.order.stand_all.Goals as goal

pub settle_all-requires-clause-sorting : goal.settle_all-requires-clause-sorting
settle_all-requires-clause-sorting c =
    subst (λ (p : List ℕ × List ℕ). Sorting c.args.graph.now p.0 p.1 c.in_ok-waits.waits.items (λ n. 0 ≤ n)) (λ i. (sym c.new-standing.ensures.empty i, sym c.new-ready.ensures.empty i))
    (sorting_first c.args.graph.now c.in_ok-waits.waits.items c.in_ok-waits.ensures.length c.in_ok-waits.ensures.empty)

pub loop-init : goal.loop-init
loop-init c = sorting_as c.args.graph.now (λ n. length c.args.graph.now ≤ n) (λ n. ⊥) (λ n below l. absurd (omega (arith, below, l))) c.in_ok-settle_all.ensures

pub stand-requires-clause-least : goal.stand-requires-clause-least
stand-requires-clause-least c = above_least c.in-Some.node c.pop_first.new.self.keys c.in-Some.ensures.all_above

pub stand-requires-clause-sorting : goal.stand-requires-clause-sorting
stand-requires-clause-sorting c = subst (λ (ks : List ℕ). Sorting c.args.graph.now c.loop.standing.keys ks c.loop.waits.items (λ n. ⊥)) c.in-Some.ensures.removal c.loop.invariant

pub returns-in-None-clause-stuck : goal.returns-in-None-clause-stuck
returns-in-None-clause-stuck c = none_ready c.args.graph.now (no_items c.loop.ready.keys (λ h. true≢false (sym (c.in-None.ensures.variant.1 h)))) c.loop.invariant
