use Rattle.std.proofs.Common.{◌≡◌, arith, length, subst}
use Rattle.go_declarations.specs.Listings.{declarations_of}
use Rattle.go_graphs.specs.Flags.{AreFlagsOf}
use Rattle.go_inexact.proofs.Told.{moved_on, there_next}
use Rattle.go_inexact.specs.inner.NoneLost.{IsInexactThere}
use Rattle.go_inexact.proofs.constants.flags_there.Goals as goal

pub loop-number-preserved : goal.loop-number-preserved
loop-number-preserved c =
    let xs = c.args.declarations.now in
    let x = c.index-declarations-number.result in
    record {
      moved = moved_on c.args.env.now c.loop-number.env c.counts.new.env c.loop-number.invariant.moved c.in-Ok.ensures.moved;
      flags = there_next c.args.env.now xs c.args.depends.now c.args.lost.now c.loop-number.number x c.loop-number-test.true c.index-declarations-number.is c.loop-number.env c.loop-number.flags.items c.push.new.self.items c.row.result.now c.in-Ok.counts
          c.loop-number.invariant.moved c.row.ensures c.in_ok-push-in-Ok.ensures.items c.loop-number.invariant.flags c.in-Ok.ensures.answer;
    }

pub returns-clause-flags : goal.returns-clause-flags
returns-clause-flags c =
    let xs = c.args.declarations.now in
    let h = c.loop-number-test.false in
    let k = c.loop-number.auto.number-end in
    let e : c.loop-number.number ≡ length xs = omega (arith, h, k) in
    subst (λ n. AreFlagsOf n (IsInexactThere c.args.env.now (declarations_of xs) c.args.depends.now c.args.lost.now) c.loop-number.flags.items) e c.loop-number.invariant.flags
