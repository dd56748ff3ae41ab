use Rattle.std.proofs.Common.{arith}
use Rattle.go_levels.proofs.LevelCounts.{on_front}
use Rattle.go_levels.proofs.LevelLists.{numbers_next}
use Rattle.go_levels.proofs.numbers.numbers_on.Goals as goal

pub loop-number-preserved : goal.loop-number-preserved
loop-number-preserved c =
    let l = c.loop-number-test.true in
    numbers_next c.args.levels.now c.args.level c.loop-number.number c.loop-number.numbers c.add_found.new.numbers (omega (arith, l, c.requires)) c.loop-number.invariant c.in_ok-add_found.ensures.on c.in_ok-add_found.ensures.off

pub returns-clause-few : goal.returns-clause-few
returns-clause-few c =
    let few = c.loop-number.invariant.few in
    let front = on_front c.args.levels.now c.loop-number.number c.args.level in
    omega (arith, few, front)
