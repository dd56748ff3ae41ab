use Rattle.api_words.proofs.Searches.{each_whole, has_get, no, refuted, yes}
use Rattle.api_words.proofs.settings.are_given.Goals as goal

pub returns-then-not-is_given : goal.returns-then-not-is_given
returns-then-not-is_given c = no (λ all. refuted c.is_given.result c.is_given.ensures c.if-not-is_given.true (all _ (has_get c.args.names.now c.loop-name.name-index _ c.loop-name-test.true)))

pub returns : goal.returns
returns c = yes (each_whole _ c.args.names.now c.loop-name.name-index c.loop-name-test.false c.loop-name.invariant)
