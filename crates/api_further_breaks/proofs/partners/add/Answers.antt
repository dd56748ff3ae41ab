use Rattle.api_further_breaks.proofs.SharedNames.{name_added}
use Rattle.api_further_breaks.proofs.partners.add.Goals as goal

pub returns : goal.returns
returns c = name_added c.args.names.now.keys c.insert.new.self.keys c.args.name c.in_ok-insert.field-0 c.in_ok-insert.ensures.keys c.in_ok-insert.ensures.added
