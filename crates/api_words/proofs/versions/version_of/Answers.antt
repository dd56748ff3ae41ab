use Rattle.api_words.proofs.versions.version_of.Goals as goal

pub returns-in-Some : goal.returns-in-Some
returns-in-Some c = rw c.in-Some.is c.version_in.ensures
