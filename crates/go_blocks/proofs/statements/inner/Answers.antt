use Rattle.go_blocks.proofs.Sorted.{block_here}
use Rattle.go_blocks.proofs.statements.inner.Goals as goal

pub returns-clause-judged : goal.returns-clause-judged
returns-clause-judged g c = block_here c.args.walk.now.frame.now c.args.env.now c.args.statements.now c.block.result c.block.ensures.judged
