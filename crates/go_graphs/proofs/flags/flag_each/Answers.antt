use Rattle.std.proofs.Common.{◌<◌, get_or, length, arith}
use Rattle.go_base.proofs.Members.{each_has}
use Rattle.go_graphs.proofs.FlaggedNumbers.{flagged_complete, flagged_kept, flagged_sound}
use Rattle.go_graphs.proofs.Members.{has_at}
use Rattle.go_graphs.proofs.flags.flag_each.Goals as goal

pub loop-number-preserved : goal.loop-number-preserved
loop-number-preserved c =
    let x = get_or c.args.numbers.now c.loop-number.number-index 0 in
    let b = each_has (λ n. n < length c.args.flags.now) c.args.numbers.now x c.requires (has_at c.args.numbers.now c.loop-number.number-index c.loop-number-test.true) in
    let a = c.loop-number.auto.flags in
    let w : x < length c.loop-number.flags = omega (arith, a, b) in
    record {
      sound = flagged_sound c.args.flags.now c.loop-number.flags c.args.numbers.now c.loop-number.number-index c.loop-number-test.true w c.loop-number.invariant.sound;
      kept = flagged_kept c.args.flags.now c.loop-number.flags c.args.numbers.now c.loop-number.number-index c.loop-number-test.true w c.loop-number.invariant.kept;
      complete = flagged_complete c.args.flags.now c.loop-number.flags c.args.numbers.now c.loop-number.number-index c.loop-number-test.true w c.loop-number.invariant.complete;
    }
