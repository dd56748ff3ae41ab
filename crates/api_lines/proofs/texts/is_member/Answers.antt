use Rattle.api_lines.proofs.TextSets.{member_found}
use Rattle.api_lines.proofs.texts.is_member.Goals as goal

pub returns : goal.returns
returns c = member_found c.args.set.now.keys c.args.text.now c.contains.result c.contains.ensures
