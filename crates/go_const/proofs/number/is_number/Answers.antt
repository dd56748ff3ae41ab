use Rattle.go_const.proofs.Bounds.{signed_answer, unsigned_answer}
use Rattle.go_const.proofs.number.is_number.Goals as goal

pub returns-in-Signed : goal.returns-in-Signed
returns-in-Signed c = rw c.in-Signed.is (signed_answer c.in-Signed.bits c.saturating_sub.result c.args.number c.magnitude.result c.ones.result c.ranges.number c.magnitude.type_inv c.ones.type_inv c.saturating_sub.ensures c.magnitude.ensures c.ones.ensures)

pub returns-then-number-ge0 : goal.returns-then-number-ge0
returns-then-number-ge0 c = rw c.in-Unsigned.is (unsigned_answer c.in-Unsigned.bits c.args.number c.ones-then-number-ge0.result c.ranges.number c.ones-then-number-ge0.type_inv c.if-number-ge0.true c.ones-then-number-ge0.ensures)
