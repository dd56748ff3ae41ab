use Rattle.std.proofs.Common.{sym, ◌∙◌}
use Rattle.go_graphs.proofs.Flagging.{apart}
use Rattle.go_left_out.proofs.skipped.push_at.Goals as goal

pub returns-then-not-is_lost-clause-more : goal.returns-then-not-is_lost-clause-more
returns-then-not-is_lost-clause-more c s u a same are told e = apart (sym e ∙ sym c.flag-is_lost.ensures ∙ c.if-not-is_lost.true)

pub returns-clause-kept : goal.returns-clause-kept
returns-clause-kept c e = apart (sym c.if-not-is_lost.false ∙ c.flag-is_lost.ensures ∙ e)

pub returns-clause-more : goal.returns-clause-more
returns-clause-more c s u a same are told e = (c.in_ok-one.one, c.in_ok-push.ensures.ok, c.in_ok-one.ensures.names, c.in_ok-one.ensures.cause s u a _ same are told)
