use Rattle.std.proofs.Common.{◌∙◌}
use Rattle.go_taken_units.proofs.ListedImports.{contains_among}
use Rattle.go_taken_units.proofs.taken_imports.is_among.Goals as goal

pub returns : goal.returns
returns c = c.contains.ensures ∙ contains_among c.args.paths.now.keys c.args.path.now
