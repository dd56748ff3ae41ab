use Rattle.std.proofs.Common.{◌<◌, ◌+◌, ℕ, List, length, sym, ap, subst, arith}
use Rattle.std.specs.Prelude.{slice_index}
use Rattle.go_levels.proofs.LevelCounts.{below_more, below_most}
use Rattle.go_work.proofs.LevelTurns.{end_few}
use Rattle.go_work.proofs.by_levels.pass_levels.Goals as goal

pub height-height-requires : goal.height-height-requires
height-height-requires g c = λ n. subst (λ (ls : List ℕ). slice_index ls n < 4294967296) (sym c.items-levels.ensures) (c.requires.plan.low n)

pub numbers_on-requires : goal.numbers_on-requires
numbers_on-requires g c =
    let few = end_few c.args.plan.now c.requires.plan c.loop-level.level c.loop-level.progress c.loop-level.invariant.reached in
    let many = c.requires.plan.many in
    let is = ap length c.items-levels.ensures in
    omega (arith, few, many, is)

pub returns-in_err-numbers-clause-steps : goal.returns-in_err-numbers-clause-steps
returns-in_err-numbers-clause-steps g c =
    let steps = c.loop-level.invariant.steps in
    let most = below_most c.items-levels.result.now c.loop-level.level in
    let many = c.requires.plan.many in
    let is = ap length c.items-levels.ensures in
    omega (arith, steps, most, many, is)

pub returns-in_err-pass_level-clause-steps : goal.returns-in_err-pass_level-clause-steps
returns-in_err-pass_level-clause-steps g c =
    let steps = c.loop-level.invariant.steps in
    let level = c.pass_level.ensures.steps in
    let numbers = ap length c.items-numbers.ensures in
    let few = c.in_ok-numbers.ensures.few in
    let more = below_more c.items-levels.result.now c.loop-level.level in
    let most = below_most c.items-levels.result.now (c.loop-level.level + 1) in
    let many = c.requires.plan.many in
    let is = ap length c.items-levels.ensures in
    omega (arith, steps, level, numbers, few, more, most, many, is)

pub loop-level-preserved : goal.loop-level-preserved
loop-level-preserved g c =
    let steps = c.loop-level.invariant.steps in
    let level = c.pass_level.ensures.steps in
    let numbers = ap length c.items-numbers.ensures in
    let few = c.in_ok-numbers.ensures.few in
    let more = below_more c.items-levels.result.now c.loop-level.level in
    record { reached = c.in_ok-pass_level.ensures.reached; steps = omega (arith, steps, level, numbers, few, more) }

pub returns-clause-steps : goal.returns-clause-steps
returns-clause-steps g c =
    let steps = c.loop-level.invariant.steps in
    let most = below_most c.items-levels.result.now c.loop-level.level in
    let many = c.requires.plan.many in
    let is = ap length c.items-levels.ensures in
    omega (arith, steps, most, many, is)
