use Rattle.api_words.specs.Words.{AreFileNames, ArePlatforms, IsVersion, IsWorkers}
use Rattle.api_words.proofs.GivenOptions.{made_nothing, means_nothing}
use Rattle.api_words.proofs.words.request_of.Goals as goal

pub returns-in_default : goal.returns-in_default
returns-in_default c = λ r a. means_nothing c.args.settings.now _ ArePlatforms _ a.asked.of_mode.once c.look_up-given.ensures (rw c.in_default.is at c.in_ok-platforms.ensures) r.platforms a.asked.platforms

pub returns-in_default-workers_of : goal.returns-in_default-workers_of
returns-in_default-workers_of c = λ r a. means_nothing c.args.settings.now _ IsWorkers _ a.asked.of_mode.once c.look_up_word-given.ensures c.in_default-workers_of.ensures r.workers a.asked.workers

pub returns-in_default-2 : goal.returns-in_default-2
returns-in_default-2 c = λ r a. means_nothing c.args.settings.now _ AreFileNames _ a.asked.of_mode.once c.look_up-given-2.ensures (rw c.in_default-2.is at c.in_ok-api.ensures) r.api a.asked.api

pub returns-in_default-3 : goal.returns-in_default-3
returns-in_default-3 c = λ r a. means_nothing c.args.settings.now _ IsVersion _ a.asked.of_mode.once c.look_up_word-given-2.ensures (rw c.in_default-3.is at c.in_ok-version.ensures) r.version a.asked.version

pub returns-in_default-made_of : goal.returns-in_default-made_of
returns-in_default-made_of c = λ r a. made_nothing c.args.settings.now _ _ c.look_up_word-seed.ensures c.look_up_word-size.ensures c.in_default-made_of.ensures r a.asked
