use Rattle.api_words.proofs.Searches.{each_whole, has_at, no, refuted, yes}
use Rattle.api_words.proofs.settings.are_own.Goals as goal

pub returns-then-not-is_own : goal.returns-then-not-is_own
returns-then-not-is_own c = no (λ all. refuted c.is_own.result c.is_own.ensures c.if-not-is_own.true (all c.setting-item.result (has_at c.args.settings.now c.loop-setting.setting-index c.setting-item.result c.loop-setting-test.true c.setting-item.is)))

pub returns : goal.returns
returns c = yes (each_whole _ c.args.settings.now c.loop-setting.setting-index c.loop-setting-test.false c.loop-setting.invariant)
