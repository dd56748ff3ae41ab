use Rattle.std.proofs.Common.{◌∙◌, sym}
use Rattle.go_tags.proofs.NameParts.{no_underscore, first_underscore}
use Rattle.go_tags.proofs.choice.does_name_hold.Goals as goal

pub returns-in-None : goal.returns-in-None
returns-in-None c = no_underscore c.args.platform c.args.file_name.now c.stem_of-stem.result.now c.stem_of-stem.ensures (sym c.position_of.ensures ∙ c.in-None.is)

pub returns-in-Some : goal.returns-in-Some
returns-in-Some c =
    c.are_parts_satisfied.ensures
    ∙ first_underscore c.args.platform c.args.file_name.now c.stem_of-stem.result.now c.stem_of-stem.ensures c.in-Some.underscore (sym c.position_of.ensures ∙ c.in-Some.is)
