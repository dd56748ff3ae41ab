use Rattle.std.proofs.Common.{sym, subst, refl, arith}
use Rattle.std.specs.Prelude.{IsSome}
use Rattle.go_work.proofs.LevelEnds.{reached_kept, reached_refused, reached_row, reached_unit, reached_within, reached_world}
use Rattle.go_work.proofs.by_levels.ended.Goals as goal

pub taken_unit-unit-requires : goal.taken_unit-unit-requires
taken_unit-unit-requires c = subst IsSome (sym (reached_row c.args.plan.now c.requires.plan c.args.progress c.requires.reached c.in-Some.error c.in-Some.is)) refl

pub overflow_cast-result : goal.overflow_cast-result
overflow_cast-result c =
    let l = reached_within c.args.plan.now c.requires.plan c.args.progress c.requires.reached c.in-Some.error c.in-Some.is in
    let f = c.requires.plan.few in
    omega (arith, l, f)

pub returns-in-Some-clause-answers : goal.returns-in-Some-clause-answers
returns-in-Some-clause-answers c = reached_refused c.args.plan.now c.requires.plan c.args.progress c.requires.reached c.in-Some.error c.in-Some.is

pub returns-in-Some-clause-handed : goal.returns-in-Some-clause-handed
returns-in-Some-clause-handed c = reached_unit c.args.plan.now c.requires.plan c.args.progress c.requires.reached c.in-Some.error c.in-Some.is c.taken_unit-unit.result c.taken_unit-unit.ensures.taken

pub returns-in-Ok-clause-answers : goal.returns-in-Ok-clause-answers
returns-in-Ok-clause-answers c = reached_world c.args.plan.now c.requires.plan c.args.progress c.requires.reached c.in-None.is

pub returns-in-Ok-clause-skipped : goal.returns-in-Ok-clause-skipped
returns-in-Ok-clause-skipped c = reached_kept c.args.plan.now c.requires.plan c.args.progress c.requires.reached c.in-None.is c.in-Ok.skipped c.in-Ok.ensures
