use Rattle.go_stmt_descent.proofs.Blocks.{one_block}
use Rattle.go_stmt_descent.proofs.CompleteKinds.{statements_read}
use Rattle.go_stmt_descent.proofs.SoundStatements.{statements_found}
use Rattle.go_stmt_descent.proofs.laws.blocks.Goals as goal

pub returns-clause-sound : goal.returns-clause-sound
returns-clause-sound c h ts ss rest e = (statements_found h).block ts ss rest e

pub returns-clause-complete : goal.returns-clause-complete
returns-clause-complete c h ts ss rest d = (statements_read h).block ts ss rest d

pub returns-clause-one : goal.returns-clause-one
returns-clause-one c h ts xs ys u v d e = one_block h ts xs ys u v d e
