use Rattle.std.proofs.Common.{List, None, length, map, refl, ap, ◌∙◌}
use Rattle.go_units.specs.declared.unit.«Unit».{«Unit» as PackageUnit}
use Rattle.go_work.specs.inner.Rows.{waiting_row}
use Rattle.go_work.proofs.LevelEnds.{begun}
use Rattle.go_work.proofs.by_levels.begun.Goals as goal

pub returns : goal.returns
returns c =
    begun c.args.plan.now c.requires.plan (record { world = c.empty.result; rows = c.in_ok-rows.rows; end = length c.items-end.result.now; refused = None }) c.empty.ensures
    (c.in_ok-rows.ensures ∙ ap (λ (us : List PackageUnit). map waiting_row us) c.requires.units) (ap length (c.items-end.ensures ∙ c.requires.units)) refl
