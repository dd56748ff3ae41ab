use Rattle.std.proofs.Common.{sym, ◌∙◌, nat_eq}
use Rattle.go_graphs.specs.Flags.{is_flagged}
use Rattle.go_check.proofs.LeftEntries.{one_kept, one_left}
use Rattle.go_check.proofs.kept.leave.Goals as goal

pub returns-then-not-is_lost-clause-kept : goal.returns-then-not-is_lost-clause-kept
returns-then-not-is_lost-clause-kept c n = one_kept (nat_eq n c.args.number) (is_flagged c.args.lost.now c.args.number) _ (sym c.flag-is_lost.ensures ∙ c.if-not-is_lost.true)

pub returns-clause-kept : goal.returns-clause-kept
returns-clause-kept c n = c.remove.ensures.removed n ∙ one_left (nat_eq n c.args.number) (is_flagged c.args.lost.now c.args.number) _ (sym c.flag-is_lost.ensures ∙ c.if-not-is_lost.false)
