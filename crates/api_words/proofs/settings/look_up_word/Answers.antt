use Rattle.std.proofs.Common.{map, string_bytes}
use Rattle.api_words.proofs.GivenOptions.{given_word}
use Rattle.api_words.proofs.settings.look_up_word.Goals as goal

pub returns-in-Some : goal.returns-in-Some
returns-in-Some c = given_word (map string_bytes c.args.words.now) c.args.settings.now c.args.name c.in-Some.value.now c.word_with.result c.requires c.in-Some.ensures c.word_with.ensures
