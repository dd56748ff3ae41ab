use Rattle.std.proofs.Common.{◌∙◌, arith, nat_cmp}
use Rattle.std.proofs.cmp.SliceLoops.{ended}
use Rattle.go_base.proofs.order.order_of_bytes.Goals as goal

pub returns : goal.returns
returns c =
    let inv = c.loop-i.invariant in
    let m = inv.0 in
    let q = c.loop-i-test.false in
    ended c.args.left.now c.args.right.now c.loop-i.i c.cmp.result (omega arith) c.cmp.ensures nat_cmp ∙ inv.2
