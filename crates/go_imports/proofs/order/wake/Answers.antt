use Rattle.std.proofs.Common.{drop, get_or, arith}
use Rattle.go_imports.specs.inner.Sorting.{IsWokenBy}
use Rattle.go_imports.proofs.Members.{has_at}
use Rattle.go_imports.proofs.Sorted.{settled, sorting_as, woken_less, none_woken}
use Rattle.go_imports.proofs.order.wake.Goals as goal

pub settle-requires-clause-is : goal.settle-requires-clause-is
settle-requires-clause-is c = (c.requires.held _ (has_at c.args.woken.now c.loop-wait.wait-index (record { node = 0; at = 0 }) c.loop-wait-test.true)).is

pub settle-requires-clause-rows : goal.settle-requires-clause-rows
settle-requires-clause-rows c = c.loop-wait.invariant.rows

pub settle-requires-clause-within : goal.settle-requires-clause-within
settle-requires-clause-within c = let w = (c.requires.held _ (has_at c.args.woken.now c.loop-wait.wait-index (record { node = 0; at = 0 }) c.loop-wait-test.true)).within in omega (arith, w)

pub settle-requires-clause-before : goal.settle-requires-clause-before
settle-requires-clause-before c = (c.requires.held _ (has_at c.args.woken.now c.loop-wait.wait-index (record { node = 0; at = 0 }) c.loop-wait-test.true)).before

pub loop-wait-preserved : goal.loop-wait-preserved
loop-wait-preserved c =
    let there = has_at c.args.woken.now c.loop-wait.wait-index (record { node = 0; at = 0 }) c.loop-wait-test.true in
    settled c.args.graph.now c.loop-wait.invariant (get_or c.args.woken.now c.loop-wait.wait-index (record { node = 0; at = 0 })).node (c.requires.held _ there).is (c.requires.fresh _ there)
    (λ k. woken_less c.args.woken.now c.loop-wait.wait-index (record { node = 0; at = 0 }) k c.loop-wait-test.true) c.settle.new.ready.keys c.settle.new.waits.items c.in_ok-settle.ensures

pub returns : goal.returns
returns c =
    sorting_as c.args.graph.now (IsWokenBy (drop c.loop-wait.wait-index c.args.woken.now)) (λ n. ⊥)
    (λ n below l. none_woken c.args.woken.now c.loop-wait.wait-index n (omega arith) l) c.loop-wait.invariant
