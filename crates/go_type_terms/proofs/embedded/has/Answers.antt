use Rattle.std.proofs.Common.{sym, ◌∙◌}
use Rattle.go_type_terms.proofs.EmbeddedNames.{found}
use Rattle.go_type_terms.proofs.embedded.has.Goals as goal

pub returns : goal.returns
returns c = λ t. found c.args.names.now.keys c.args.name.now (sym c.contains.ensures ∙ t)
