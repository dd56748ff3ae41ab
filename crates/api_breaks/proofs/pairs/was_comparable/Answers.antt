use Rattle.std.proofs.Common.{sym, ◌∙◌}
use mathlib.Core.Bool.{true≢false}
use Rattle.api_breaks.proofs.PairLosses.{compared}
use Rattle.api_breaks.proofs.pairs.was_comparable.Goals as goal

pub returns-then-not-types_match : goal.returns-then-not-types_match
returns-then-not-types_match c = λ x. true≢false (sym (c.types_match.ensures.1 x.alike) ∙ c.if-not-types_match.true)

pub returns : goal.returns
returns c = compared c.args.old.now c.args.new.now c.args.pair.now c.in_ok-before.before (c.types_match.ensures.0 c.if-not-types_match.false) c.in_ok-before.ensures
