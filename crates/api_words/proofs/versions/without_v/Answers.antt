use Rattle.std.proofs.Common.{None, lit<}
use Rattle.std.proofs.lemmas.Str.Pattern.{strip_prefix_char}
use Rattle.api_words.proofs.VersionWords.{without_none}
use Rattle.api_words.proofs.versions.without_v.Goals as goal

pub returns-in-None : goal.returns-in-None
returns-in-None c = without_none c.args.word.now (strip_prefix_char 118 c.args.word.now None c.in-None.ensures.cases (lit< tt))
