use Rattle.std.proofs.Common.{ap, sym, ◌∙◌, Some}
use Rattle.go_const.proofs.Bits.{and_fits, and_is, and_not_is, complement_fits, or_fits, or_is, xor_fits, xor_is}
use Rattle.go_const.proofs.Bounds.{in_bounds}
use Rattle.go_const.proofs.number.combined.Goals as goal

pub returns-in-And : goal.returns-in-And
returns-in-And c = rw c.in-And.is (ap Some (and_is c.args.left c.args.right c.ranges.left c.ranges.right) ∙ sym (in_bounds _ (and_fits c.args.left c.args.right c.ranges.left c.ranges.right)))

pub returns-in-Or : goal.returns-in-Or
returns-in-Or c = rw c.in-Or.is (ap Some (or_is c.args.left c.args.right c.ranges.left c.ranges.right) ∙ sym (in_bounds _ (or_fits c.args.left c.args.right c.ranges.left c.ranges.right)))

pub returns-in-Xor : goal.returns-in-Xor
returns-in-Xor c = rw c.in-Xor.is (ap Some (xor_is c.args.left c.args.right c.ranges.left c.ranges.right) ∙ sym (in_bounds _ (xor_fits c.args.left c.args.right c.ranges.left c.ranges.right)))

pub returns-in-AndNot : goal.returns-in-AndNot
returns-in-AndNot c = rw c.in-AndNot.is (ap Some (and_not_is c.args.left c.args.right c.ranges.left c.ranges.right) ∙ sym (in_bounds _ (and_fits c.args.left _ c.ranges.left (complement_fits c.args.right c.ranges.right))))
