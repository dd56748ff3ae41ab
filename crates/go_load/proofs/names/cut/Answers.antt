use Rattle.std.proofs.Common.{arith}
use Rattle.go_load.proofs.ModuleLines.{parts_whole, parts_at}
use Rattle.go_load.proofs.names.cut.Goals as goal

pub returns-then-length-bytes-clause-none : goal.returns-then-length-bytes-clause-none
returns-then-length-bytes-clause-none c = parts_whole c.args.separator c.args.bytes.now (omega (arith, c.length_before-length.ensures.length, c.if-length-bytes.true))

pub returns-clause-some : goal.returns-clause-some
returns-clause-some c = parts_at c.args.separator c.args.bytes.now c.split_at.result.0.now c.split_at-2.result.1.now c.length_before-length.result
    c.length_before-length.ensures.length c.length_before-length.ensures.within c.if-length-bytes.false c.split_at.ensures.front c.split_at-2.ensures.back
