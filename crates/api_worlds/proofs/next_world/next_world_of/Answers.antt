use Rattle.api_worlds.proofs.ListedPackages.{still_typed, typed_lines, typed_world}
use Rattle.api_worlds.proofs.next_world.next_world_of.Goals as goal

pub returns-in-Ok-with_lines-clause-answer : goal.returns-in-Ok-with_lines-clause-answer
returns-in-Ok-with_lines-clause-answer g c =
    typed_world c.args.trees.now.platform c.args.units c.int_bits-bits.result c.in-Ok.packages c.int_bits-bits.ensures c.in-Ok.ensures.bits c.in-Ok.ensures.units c.in-Ok.ensures.typed c.in-Ok-with_lines.found.typed c.in-Ok-with_lines.ensures.typed

pub returns-in-Ok-with_lines-clause-left_out : goal.returns-in-Ok-with_lines-clause-left_out
returns-in-Ok-with_lines-clause-left_out g c =
    typed_lines c.args.trees.now.platform c.args.units c.int_bits-bits.result c.in-Ok.packages c.int_bits-bits.ensures c.in-Ok.ensures.bits c.in-Ok.ensures.units c.in-Ok.ensures.typed
    c.args.trees.now.tree.now c.args.trees.now.std_tree.now c.in-Ok-with_lines.found.left_out c.in-Ok-with_lines.ensures.lines

pub returns-in-Ok-with_lines-clause-typed : goal.returns-in-Ok-with_lines-clause-typed
returns-in-Ok-with_lines-clause-typed g c = still_typed c.in-Ok-with_lines.found.typed c.in-Ok.packages c.in-Ok-with_lines.ensures.typed c.in-Ok.ensures.typed
