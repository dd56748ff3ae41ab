use Rattle.std.proofs.Common.{sym, ap, ◌∙◌, subst, arith}
use Rattle.std.proofs.lemmas.Result.{IfOk-weaker}
use Rattle.std.specs.Prelude.{IsSome, slice_index}
use mathlib.Core.Bool.{true≢false}
use Rattle.go_typings.proofs.Cells.{some_once}
use Rattle.go_sources.specs.UnitSources.{source_of}
use Rattle.go_typings.specs.PackageWorlds.{over}
use Rattle.go_units.specs.declared.unit.«Unit».{«Unit» as PackageUnit}
use Rattle.go_work.specs.declared.rows.Row.{Row}
use Rattle.go_work.specs.inner.Checks.{Checks}
use Rattle.go_work.proofs.ReadyRows.{ready_held, ready_new, ready_pathed}
use Rattle.go_work.proofs.RowLists.{unit_less, unit_of_row}
use Rattle.go_work.proofs.level.LevelJobsResultCheckedPackageCheckError.run.Goals as goal

pub offset_bounds-self-at : goal.offset_bounds-self-at
offset_bounds-self-at g c =
    let s = c.args.self.now in
    let n = slice_index s.numbers.now c.args.number in
    let l = unit_less s.rows.now n (ready_held s.world.now.packages s.rows.now n (s.ready c.args.number c.requires)) in
    let f = s.few in
    omega (arith, l, f)

pub bounds-self-at : goal.bounds-self-at
bounds-self-at g c = let s = c.args.self.now in let n = slice_index s.numbers.now c.args.number in unit_less s.rows.now n (ready_held s.world.now.packages s.rows.now n (s.ready c.args.number c.requires))

pub unreachable-requires : goal.unreachable-requires
unreachable-requires g c =
    let s = c.args.self.now in
    let n = slice_index s.numbers.now c.args.number in
    let held = ready_held s.world.now.packages s.rows.now n (s.ready c.args.number c.requires) in
    let row = unit_of_row s.rows.now n c.index-self-at.result (unit_less s.rows.now n held) c.index-self-at.is in
    true≢false (sym (subst IsSome (row ∙ ap (λ (r : Row). r.held) c.index-self-at.is ∙ c.in_default.is) held))

pub overflow_cast-at : goal.overflow_cast-at
overflow_cast-at g c =
    let s = c.args.self.now in
    let n = slice_index s.numbers.now c.args.number in
    let l = unit_less s.rows.now n (ready_held s.world.now.packages s.rows.now n (s.ready c.args.number c.requires)) in
    let f = s.few in
    omega (arith, l, f)

pub check_unit-requires-clause-pathed : goal.check_unit-requires-clause-pathed
check_unit-requires-clause-pathed g c =
    let s = c.args.self.now in
    let n = slice_index s.numbers.now c.args.number in
    let held = ready_held s.world.now.packages s.rows.now n (s.ready c.args.number c.requires) in
    let row = unit_of_row s.rows.now n c.index-self-at.result (unit_less s.rows.now n held) c.index-self-at.is ∙ ap (λ (r : Row). r.held) c.index-self-at.is ∙ c.in-Some.is in
    ready_pathed s.world.now.packages s.rows.now n c.in-Some.«unit» row (s.ready c.args.number c.requires)

pub check_unit-requires-clause-absent : goal.check_unit-requires-clause-absent
check_unit-requires-clause-absent g c =
    let s = c.args.self.now in
    let n = slice_index s.numbers.now c.args.number in
    let held = ready_held s.world.now.packages s.rows.now n (s.ready c.args.number c.requires) in
    let row = unit_of_row s.rows.now n c.index-self-at.result (unit_less s.rows.now n held) c.index-self-at.is ∙ ap (λ (r : Row). r.held) c.index-self-at.is ∙ c.in-Some.is in
    ready_new s.world.now.packages s.rows.now n c.in-Some.«unit» row (s.ready c.args.number c.requires)

pub returns-clause-gives : goal.returns-clause-gives
returns-clause-gives g c =
    let s = c.args.self.now in
    let n = slice_index s.numbers.now c.args.number in
    let held = ready_held s.world.now.packages s.rows.now n (s.ready c.args.number c.requires) in
    let row = unit_of_row s.rows.now n c.index-self-at.result (unit_less s.rows.now n held) c.index-self-at.is ∙ ap (λ (r : Row). r.held) c.index-self-at.is ∙ c.in-Some.is in
    IfOk-weaker c.check_unit.result _ _ (λ x k u e. subst (λ (v : PackageUnit). Checks (over s.bits s.world.now) (source_of v) x) (some_once c.in-Some.«unit» u (sym row ∙ e)) k) c.check_unit.ensures.checks
