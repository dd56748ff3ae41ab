use Rattle.api_words.proofs.GivenOptions.{given_has}
use Rattle.api_words.proofs.settings.is_given.Goals as goal

pub returns : goal.returns
returns c = given_has c.args.settings.now c.args.name c.look_up.result c.is_some.result c.look_up.ensures c.is_some.ensures
