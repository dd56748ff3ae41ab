use Rattle.std.proofs.Common.{ap}
use Rattle.go_literal_blocks.proofs.RisingBlocks.{once_at}
use Rattle.go_syntax.specs.declared.statement.LiteralBlock.{LiteralBlock}
use Rattle.go_walks.proofs.literal.block_at.Goals as goal

pub returns : goal.returns
returns c = λ l e. ap (λ (b : LiteralBlock). b.block) (once_at c.args.blocks.now.list.now c.args.at c.index-list-at.result l c.requires c.index-list-at.is e)
