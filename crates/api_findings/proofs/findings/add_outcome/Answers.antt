use Rattle.std.proofs.Common.{[], get_or, slice_get}
use Rattle.std.specs.Option.{option_copied}
use Rattle.api_findings.proofs.AlikeFindings.{added_again}
use Rattle.api_findings.proofs.LeftOutPlatforms.{left_out_again}
use Rattle.api_findings.proofs.PlatformFindings.{in_order}
use Rattle.api_findings.proofs.PlatformOutcomes.{alike_is, sought_is}
use Rattle.api_findings.proofs.findings.add_outcome.Goals as goal

pub returns-in-Ok-clause-answer : goal.returns-in-Ok-clause-answer
returns-in-Ok-clause-answer c =
    added_again c.alike_units.ensures c.args.trees.now.barred.now (option_copied c.args.trees.now.old_tree) c.args.trees.now.tree.now c.args.trees.now.std_tree.now c.args.platform c.args.all.now.features c.args.all.now.verdicts c.push_again.new.self.features c.push_again.new.self.verdicts
    (get_or c.args.all.now.features c.args.first []) (slice_get c.args.all.now.verdicts c.args.first) c.in-Ok.ensures.features c.in-Ok.ensures.verdicts
    (c.requires.alike (alike_is c.args.trees.now.barred.now (option_copied c.args.trees.now.old_tree) c.args.trees.now.tree.now c.args.trees.now.std_tree.now _ _ _ _ c.in-Alike.is c.requires.outcome))

pub returns-in-Ok-clause-left_out : goal.returns-in-Ok-clause-left_out
returns-in-Ok-clause-left_out c =
    left_out_again c.args.trees.now.barred.now c.args.trees.now.std_tree.now (option_copied c.args.trees.now.old_tree) c.args.trees.now.tree.now c.alike_units.ensures c.args.platform c.args.all.now.left_out c.push_again.new.self.left_out
    (slice_get c.args.all.now.left_out c.args.first) (c.requires.left_out (alike_is c.args.trees.now.barred.now (option_copied c.args.trees.now.old_tree) c.args.trees.now.tree.now c.args.trees.now.std_tree.now _ _ _ _ c.in-Alike.is c.requires.outcome)) c.in-Ok.ensures.left_out

pub push-requires : goal.push-requires
push-requires c = in_order c.args.trees.now.barred.now (option_copied c.args.trees.now.old_tree) c.args.trees.now.tree.now c.args.trees.now.std_tree.now c.args.platform c.in-Sought.found (sought_is c.args.trees.now.barred.now (option_copied c.args.trees.now.old_tree) c.args.trees.now.tree.now c.args.trees.now.std_tree.now _ _ _ _ c.in-Sought.found c.in-Sought.is c.requires.outcome).0
