use Rattle.std.proofs.Common.{string_bytes, ◌∙◌}
use Rattle.api_words.proofs.Searches.{each_next, each_whole, map_has, refuted}
use Rattle.api_words.proofs.settings.word_with.Goals as goal

pub loop-word-preserved : goal.loop-word-preserved
loop-word-preserved c = each_next _ c.args.words.now c.loop-word.word-index c.word-item.result c.loop-word-test.true c.word-item.is c.loop-word.invariant (λ e. refuted c.are_same.result c.are_same.ensures c.if-are_same.false (c.as_bytes.ensures.value ∙ e))

pub returns : goal.returns
returns c = λ h. let k = map_has string_bytes c.args.words.now c.args.bytes.now h in each_whole _ c.args.words.now c.loop-word.word-index c.loop-word-test.false c.loop-word.invariant k.0 k.1 k.2
