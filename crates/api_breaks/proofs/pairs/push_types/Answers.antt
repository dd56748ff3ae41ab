use Rattle.std.proofs.Common.{sym, ◌∙◌}
use mathlib.Core.Bool.{true≢false}
use Rattle.api_breaks.proofs.PairLosses.{types_kept, types_lost}
use Rattle.api_breaks.proofs.pairs.push_types.Goals as goal

pub returns-then-types_match : goal.returns-then-types_match
returns-then-types_match c = types_kept c.args.old.now c.args.new.now c.args.pair.now c.args.losses.now.items (c.types_match.ensures.0 c.if-types_match.true)

pub returns : goal.returns
returns c = types_lost c.args.old.now c.args.new.now c.args.pair.now c.args.losses.now.items c.push.new.self.items c.in_ok-before.before c.in_ok-after.after (λ m. true≢false (sym (c.types_match.ensures.1 m) ∙ c.if-types_match.false)) c.in_ok-before.ensures c.in_ok-after.ensures c.in_ok-push.ensures.items
