use Rattle.api_further_breaks.proofs.SharedNames.{name_told}
use Rattle.api_further_breaks.proofs.partners.has.Goals as goal

pub returns : goal.returns
returns c = name_told c.args.names.now.keys c.args.name.now c.contains.result c.contains.ensures
