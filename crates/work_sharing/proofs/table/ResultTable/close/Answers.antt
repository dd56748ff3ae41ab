use Rattle.std.proofs.Common.{sym, subst}
use Rattle.work_sharing.specs.Results.{AreOf}
use Rattle.work_sharing.proofs.Kept.{rows_of}
use Rattle.work_sharing.proofs.table.ResultTable.close.Goals as goal

pub returns-clause-rows : goal.returns-clause-rows
returns-clause-rows g c =
    let closed = c.close_with-closed.result in
    let good = g.J.Jobs.gives c.args.self.table.shared.key in
    subst (λ xs. AreOf good c.args.worker.me.0 xs) (sym c.from_vec.ensures) (rows_of good c.args.worker.id c.args.worker.me.0 _ _ c.emptied.result.items c.close_with-closed.ensures.values.2 c.emptied.ensures.kept)
