use Rattle.std.proofs.Common.{[]}
use Rattle.go_stmt_descent.proofs.Blocks.{one_block, skipped}
use Rattle.go_stmt_descent.proofs.laws.parsed_bodies.Goals as goal

pub returns-clause-skipped : goal.returns-clause-skipped
returns-clause-skipped c ts p d = skipped ts p d

pub returns-clause-one_block : goal.returns-clause-one_block
returns-clause-one_block c ts p q d e = (one_block 256 ts p.block q.block [] [] (skipped ts p d) (skipped ts q e)).0
