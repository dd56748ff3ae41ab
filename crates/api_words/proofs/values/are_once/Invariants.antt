use Rattle.std.proofs.Common.{drop}
use Rattle.go_base.specs.Lists.{Once}
use Rattle.api_words.proofs.values.are_once.Given as goal

abbrev pub invariant-loop-i : goal.invariant-loop-i
invariant-loop-i l = (Once (drop l.i l.platforms) → Once l.platforms) × (Once l.platforms → Once (drop l.i l.platforms))
