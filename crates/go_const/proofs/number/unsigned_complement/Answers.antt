use Rattle.std.proofs.Common.{sym}
use Rattle.go_const.proofs.Bounds.{unsigned_out}
use Rattle.go_const.proofs.number.unsigned_complement.Goals as goal

pub returns-then-bits-gt127 : goal.returns-then-bits-gt127
returns-then-bits-gt127 c = sym (unsigned_out c.args.bits c.args.number c.if-bits-gt127.true c.ranges.number)
