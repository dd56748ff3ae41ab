use Rattle.std.proofs.Common.{ℕ, List, [], get_or, subst}
use Rattle.go_reading.proofs.TreeAnswers.{answered}
use Rattle.go_reading.specs.inner.Heads.{IsHeadedReading}
use Rattle.go_units.specs.UnitsOfModules.{Answers}
use Rattle.go_units.specs.declared.folder.Folder.{Folder}
use Rattle.go_reading.proofs.units.units.Goals as goal

pub returns-in-Ok : goal.returns-in-Ok
returns-in-Ok c =
    answered c.args.platform c.args.barred.now c.args.tree.now c.args.std_tree.now c.in-Ok.field-0.folders c.in-Ok.field-0.contents c.units.result c.in-Ok.ensures.folders c.in-Ok.ensures.contents
    (subst (λ (w : List ℕ × List Folder). Answers w.0 w.1 (λ n x. IsHeadedReading (get_or c.in-Ok.field-0.contents n []) x) c.units.result) (λ i. (c.bytes.ensures i, c.items.ensures i)) c.units.ensures)
