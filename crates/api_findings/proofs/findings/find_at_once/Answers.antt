use Rattle.std.proofs.Common.{arith}
use Rattle.std.specs.Option.{option_copied}
use Rattle.api_findings.proofs.PlatformOutcomes.{merged_count}
use Rattle.api_findings.proofs.findings.find_at_once.Goals as goal

pub sought-outcomes-requires-clause-same : goal.sought-outcomes-requires-clause-same
sought-outcomes-requires-clause-same g c κs within = c.requires.firsts.many

pub returns-in-Err-clause-steps : goal.returns-in-Err-clause-steps
returns-in-Err-clause-steps g c = merged_count c.args.trees.now.barred.now (option_copied c.args.trees.now.old_tree) c.args.trees.now.tree.now c.args.trees.now.std_tree.now c.args.platforms.now _ c.args.steps.now _ c.sought-outcomes.ensures.steps (omega (arith, c.merge.ensures))

pub returns-in-Ok-clause-steps : goal.returns-in-Ok-clause-steps
returns-in-Ok-clause-steps g c = merged_count c.args.trees.now.barred.now (option_copied c.args.trees.now.old_tree) c.args.trees.now.tree.now c.args.trees.now.std_tree.now c.args.platforms.now _ c.args.steps.now _ c.sought-outcomes.ensures.steps (omega (arith, c.merge.ensures))
