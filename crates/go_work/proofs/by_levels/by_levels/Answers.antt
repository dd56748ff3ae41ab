use Rattle.std.proofs.Common.{List, sym, subst}
use Rattle.go_units.specs.declared.unit.«Unit».{«Unit» as PackageUnit}
use Rattle.go_work.specs.inner.Progresses.{ArePlanned}
use Rattle.go_work.proofs.PlannedUnits.{planned}
use Rattle.go_work.proofs.by_levels.by_levels.Goals as goal

pub begun-requires-clause-plan : goal.begun-requires-clause-plan
begun-requires-clause-plan g c = subst (λ (us : List PackageUnit). ArePlanned us c.in-Ok.levels c.args.bits) (sym c.of.ensures) (planned c.args.units c.in-Ok.levels c.args.bits c.requires.bits c.requires.paths c.in-Ok.ensures)

pub pass_levels-requires-clause-plan : goal.pass_levels-requires-clause-plan
pass_levels-requires-clause-plan g c κs within = subst (λ (us : List PackageUnit). ArePlanned us c.in-Ok.levels c.args.bits) (sym c.of.ensures) (planned c.args.units c.in-Ok.levels c.args.bits c.requires.bits c.requires.paths c.in-Ok.ensures)

pub ended-requires-clause-plan : goal.ended-requires-clause-plan
ended-requires-clause-plan g c = subst (λ (us : List PackageUnit). ArePlanned us c.in-Ok.levels c.args.bits) (sym c.of.ensures) (planned c.args.units c.in-Ok.levels c.args.bits c.requires.bits c.requires.paths c.in-Ok.ensures)
