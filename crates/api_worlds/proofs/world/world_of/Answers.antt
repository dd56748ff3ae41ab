use Rattle.api_worlds.proofs.KeptPackages.{lines_kept}
use Rattle.api_worlds.proofs.PlatformAnswers.{world_kept}
use Rattle.api_worlds.proofs.world.world_of.Goals as goal

pub returns-in-Ok-with_left_out-clause-answer : goal.returns-in-Ok-with_left_out-clause-answer
returns-in-Ok-with_left_out-clause-answer g c =
    world_kept c.args.trees.now.platform c.args.units c.int_bits-bits.result c.in-Ok.checked.world c.in-Ok-with_left_out.found.world c.int_bits-bits.ensures c.in-Ok-with_left_out.ensures.0 c.in-Ok.ensures.answers

pub returns-in-Ok-with_left_out-clause-left_out : goal.returns-in-Ok-with_left_out-clause-left_out
returns-in-Ok-with_left_out-clause-left_out g c =
    lines_kept c.args.trees.now.tree.now c.args.trees.now.std_tree.now c.args.trees.now.platform c.args.units c.int_bits-bits.result c.in-Ok.checked.skipped c.in-Ok-with_left_out.found.left_out c.int_bits-bits.ensures c.in-Ok.ensures.skipped
    c.in-Ok-with_left_out.ensures.1
