use Rattle.std.proofs.Common.{sym, ap, ◌∙◌, subst, true≢false}
use Rattle.work_sharing.specs.Results.{IsDone}
use Rattle.work_sharing.proofs.Joins.{done_both}
use Rattle.work_sharing.proofs.work.together.Goals as goal
use Rattle.work_sharing.proofs.work.together.Goals.{then-done, else-done}

pub returns-clause-done : goal.returns-clause-done
returns-clause-done g c = elim c.if-done.branch [
  | then-done w ↦ λ e. subst IsDone (sym (ap (λ m. m.0) c.rejoin.ensures.1)) (done_both c.args.ours.worker.me.0 c.args.theirs.worker.me.0 (c.requires.done.0 w.if-done.true) (c.requires.done.1 (sym w.result-is ∙ e)))
  | else-done w ↦ λ e. absurd (true≢false (sym e ∙ w.result-is ∙ w.if-done.false))
]
