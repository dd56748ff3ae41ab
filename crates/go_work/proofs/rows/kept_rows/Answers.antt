use Rattle.std.proofs.Common.{◌∷◌, [], ◌++◌, List, sym, ap, ◌∙◌, append_assoc}
use Rattle.std.specs.Vec.Iter.{into_iter_items}
use Rattle.go_work.specs.declared.checked.SkippedUnit.{SkippedUnit}
use Rattle.go_work.specs.declared.rows.Row.{Row}
use Rattle.go_work.specs.inner.Rows.{kept_of}
use Rattle.go_work.proofs.RowLists.{kept_last}
use Rattle.go_work.proofs.rows.kept_rows.Goals as goal

pub loop-row-preserved : goal.loop-row-preserved
loop-row-preserved c =
    let front = c.loop-row.yielded in
    let row = c.in-Some.row in
    record {
      kept = c.in_ok-keep_row.ensures ∙ ap (λ (k : List SkippedUnit). k ++ kept_of row.held row.left_out) c.loop-row.invariant.kept ∙ sym (kept_last front row);
      parts = append_assoc front (row ∷ []) (into_iter_items c.next.new.self) ∙ ap (λ (w : List Row). front ++ w) (sym c.in-Some.ensures.steps.0) ∙ c.loop-row.invariant.parts;
    }
