use Rattle.std.proofs.Common.{◌∙◌}
use Rattle.go_taken_units.proofs.ListedImports.{contains_among}
use Rattle.api_shared_features.proofs.after.is_taken.Goals as goal

pub returns : goal.returns
returns c = c.contains.ensures ∙ contains_among c.args.taken.now.keys c.args.path.now
