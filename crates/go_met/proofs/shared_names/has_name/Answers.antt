use Rattle.go_met.proofs.SharedNames.{has_decided}
use Rattle.go_met.proofs.shared_names.has_name.Goals as goal

pub returns : goal.returns
returns c = has_decided c.args.names.now.keys c.args.name.now c.contains.result c.contains.ensures
