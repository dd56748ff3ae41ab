use Rattle.std.proofs.Common.{sym, ap, ◌∙◌, subst, arith}
use Rattle.std.specs.Prelude.{IsSome}
use mathlib.Core.Bool.{true≢false}
use Rattle.go_work.specs.declared.rows.Row.{Row}
use Rattle.go_work.proofs.RowLists.{unit_less, unit_of_row}
use Rattle.go_work.proofs.rows.taken_unit.Goals as goal

pub index_mut-requires : goal.index_mut-requires
index_mut-requires c = let l = unit_less c.args.rows.now.items c.args.number c.requires in let k = c.args.rows.now.ok.0 in omega (arith, l, k)

pub unreachable-requires : goal.unreachable-requires
unreachable-requires c =
    let rows = c.args.rows.now.items in
    let row = unit_of_row rows c.args.number c.index_mut.result.now (unit_less rows c.args.number c.requires) c.index_mut.ensures.value ∙ ap (λ (r : Row). r.held) (sym c.replace-row.ensures.value) in
    true≢false (sym (subst IsSome (row ∙ c.in_default.is) c.requires))

pub returns-clause-taken : goal.returns-clause-taken
returns-clause-taken c =
    let rows = c.args.rows.now.items in
    unit_of_row rows c.args.number c.index_mut.result.now (unit_less rows c.args.number c.requires) c.index_mut.ensures.value ∙ ap (λ (r : Row). r.held) (sym c.replace-row.ensures.value) ∙ c.in-Some.is
