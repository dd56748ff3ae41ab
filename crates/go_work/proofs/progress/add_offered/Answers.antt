use Rattle.std.proofs.Common.{List, Bool, length, refl, sym, ap, ◌∙◌, subst, arith}
use Rattle.std.specs.Prelude.{slice_set}
use Rattle.go_exposed.specs.declared.skipped.Skipped.{Skipped}
use Rattle.go_model.specs.declared.types.package.Package.{Package}
use Rattle.go_model.specs.worlds.Worlds.{IsWorld, with_package}
use Rattle.go_work.specs.declared.rows.Row.{Row}
use Rattle.go_work.specs.inner.Rows.{no_row, offered_row}
use Rattle.go_work.proofs.RowLists.{set_length, unit_less}
use Rattle.go_work.proofs.progress.add_offered.Goals as goal

pub add-requires : goal.add-requires
add-requires c =
    subst (λ (q : Package × Bool). IsWorld (with_package c.args.progress.now.world q.0 q.1)) (λ i. ((sym c.into_parts-package.ensures i).0, sym c.is_public.ensures i)) (c.requires.joins c.taken_unit-unit.result c.taken_unit-unit.ensures.taken)

pub index_mut-requires : goal.index_mut-requires
index_mut-requires c =
    let l = unit_less c.args.progress.now.rows.items c.args.number c.requires.held in
    let m = ap length c.taken_unit-unit.ensures.left ∙ set_length c.args.progress.now.rows.items c.args.number no_row in
    let k = c.taken_unit-unit.new.rows.ok.0 in
    omega (arith, l, m, k)

pub returns : goal.returns
returns c =
    let rows = c.args.progress.now.rows.items in
    let u = c.taken_unit-unit.result in (
      u,
      c.taken_unit-unit.ensures.taken,
      record {
        world = c.in_ok-add.ensures.ok ∙ (λ i. with_package c.args.progress.now.world (c.into_parts-package.ensures i).0 (c.is_public.ensures i));
        rows =
            ap (λ (rs : List Row). slice_set rs c.args.number c.offered_row.result) c.taken_unit-unit.ensures.left
            ∙ ap (λ (r : Row). slice_set (slice_set rows c.args.number no_row) c.args.number r) (c.offered_row.ensures ∙ ap (λ (q : Package × List Skipped). offered_row u q.1) c.into_parts-package.ensures);
        end = refl;
        refused = refl;
      },
    )
