use Rattle.std.proofs.Common.{refl}
use Rattle.std.specs.Option.{option_copied}
use Rattle.api_findings.proofs.PlatformFindings.{answered_many, answered_plain, none_counted}
use Rattle.api_findings.proofs.findings.find.Goals as goal

pub returns-in-Err-clause-steps : goal.returns-in-Err-clause-steps
returns-in-Err-clause-steps g c = none_counted c.args.trees.now.barred.now (option_copied c.args.trees.now.old_tree) c.args.trees.now.tree.now c.args.trees.now.std_tree.now c.args.platforms.now c.args.steps.now c.args.steps.now refl

pub returns-in-Ok-clause-many : goal.returns-in-Ok-clause-many
returns-in-Ok-clause-many g c = answered_many c.args.trees.now.barred.now (option_copied c.args.trees.now.old_tree) c.args.trees.now.tree.now c.args.trees.now.std_tree.now c.args.platforms.now c.find_by.result c.find_by.ensures.answer

pub returns-in-Ok-clause-plain : goal.returns-in-Ok-clause-plain
returns-in-Ok-clause-plain g c = answered_plain c.args.trees.now.barred.now (option_copied c.args.trees.now.old_tree) c.args.trees.now.tree.now c.args.trees.now.std_tree.now c.args.platforms.now c.find_by.result c.find_by.ensures.answer
