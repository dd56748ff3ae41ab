use Rattle.api_findings.proofs.ListedSides.{listed_of}
use Rattle.api_findings.proofs.sides.listed_on.Goals as goal

pub returns-in-Ok-features-clause-answer : goal.returns-in-Ok-features-clause-answer
returns-in-Ok-features-clause-answer g c =
    listed_of c.args.trees.now.barred.now c.args.trees.now.tree.now c.args.trees.now.std_tree.now c.args.trees.now.platform c.in-Ok.found.world c.in-Ok-features.lines c.in-Ok.found.left_out c.in-Ok.ensures.answer c.in-Ok.ensures.left_out c.in-Ok-features.ensures
    c.with_lines.result.world c.with_lines.result.listed c.with_lines.ensures.world c.with_lines.ensures.lines c.with_lines.ensures.left_out
