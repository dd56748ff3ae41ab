use Rattle.api_words.proofs.Names.{no_platforms}
use Rattle.api_words.proofs.values.named_platforms.Goals as goal

pub returns-in-None : goal.returns-in-None
returns-in-None c = no_platforms c.args.names.now c.loop-name.name-index _ c.loop-name-test.true c.in-None.ensures
