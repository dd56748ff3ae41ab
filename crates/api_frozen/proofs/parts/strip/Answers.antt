use Rattle.api_frozen.proofs.Words.{stripped, not_stripped}
use Rattle.api_frozen.proofs.parts.strip.Goals as goal

pub returns-clause-some : goal.returns-clause-some
returns-clause-some c = stripped c.strip_prefix.result c.args.bytes.now c.args.front.now c.strip_prefix.ensures.cases

pub returns-clause-none : goal.returns-clause-none
returns-clause-none c = not_stripped c.strip_prefix.result c.args.bytes.now c.args.front.now c.strip_prefix.ensures.cases
