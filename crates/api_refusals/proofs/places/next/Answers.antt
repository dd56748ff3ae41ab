use Rattle.std.proofs.Common.{sym, ◌∙◌}
use Rattle.api_refusals.proofs.Counting.{newline_next, other_next}
use Rattle.api_refusals.proofs.places.next.Goals as goal

pub returns-then-is_newline-clause-counts : goal.returns-then-is_newline-clause-counts
returns-then-is_newline-clause-counts c = newline_next c.args.bytes.now c.args.count _ c.requires.within c.requires.counts (sym c.is_newline.ensures ∙ c.if-is_newline.true)

pub returns-else-is_newline-clause-counts : goal.returns-else-is_newline-clause-counts
returns-else-is_newline-clause-counts c = other_next c.args.bytes.now c.args.count _ c.requires.within c.requires.counts (sym c.is_newline.ensures ∙ c.if-is_newline.false)
