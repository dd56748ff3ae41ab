use Rattle.std.proofs.Common.{◌∙◌, sym}
use Rattle.go_tags.proofs.NameParts.{before_found, before_none}
use Rattle.go_tags.proofs.choice.stem_of.Goals as goal

pub returns-in-Some : goal.returns-in-Some
returns-in-Some c = before_found _ c.args.file_name.now c.in-Some.dot (sym c.position_of.ensures ∙ c.in-Some.is)

pub returns-in-None : goal.returns-in-None
returns-in-None c = before_none _ c.args.file_name.now (sym c.position_of.ensures ∙ c.in-None.is)
