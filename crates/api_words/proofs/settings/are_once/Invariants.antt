use Rattle.std.proofs.Common.{map, drop}
use Rattle.go_base.specs.Lists.{Once}
use Rattle.api_words.specs.Words.{option_in}
use Rattle.api_words.proofs.settings.are_once.Given as goal

abbrev pub invariant-loop-i : goal.invariant-loop-i
invariant-loop-i l = (Once (map option_in (drop l.i l.settings)) → Once (map option_in l.settings)) × (Once (map option_in l.settings) → Once (map option_in (drop l.i l.settings)))
