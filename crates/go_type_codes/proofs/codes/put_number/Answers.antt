use Rattle.std.proofs.Common.{arith, refl, ◌%◌, ◌/◌, ◌-◌}
use Rattle.go_type_codes.proofs.Putting.{digits_more, digits_smaller, digits_end}
use Rattle.go_type_codes.proofs.codes.put_number.Goals as goal

pub loop-left-preserved : goal.loop-left-preserved
loop-left-preserved c = record {
  put = digits_more c.loop-left.left c.loop-left.rest (c.loop-left.rest % 256) (c.loop-left.rest / 256) (c.loop-left.left - 1) c.loop-left.out.items c.put.new.out.items _ c.loop-left-test.true refl refl refl c.in_ok-put.ensures c.loop-left.invariant.put;
  small = digits_smaller c.loop-left.left c.loop-left.rest c.loop-left-test.true c.loop-left.invariant.small;
  few = omega arith;
}

pub returns : goal.returns
returns c = digits_end c.loop-left.left c.loop-left.rest c.loop-left.out.items c.put-2.new.out.items _ c.loop-left-test.false c.loop-left.invariant.small c.in_ok-put-2.ensures c.loop-left.invariant.put
