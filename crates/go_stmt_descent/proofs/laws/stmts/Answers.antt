use Rattle.go_stmt_descent.proofs.CompleteKinds.{statements_read}
use Rattle.go_stmt_descent.proofs.SoundStatements.{statements_found}
use Rattle.go_stmt_descent.proofs.laws.stmts.Goals as goal

pub returns-clause-sound : goal.returns-clause-sound
returns-clause-sound c h ts x rest e = (statements_found h).stmt ts x rest e

pub returns-clause-complete : goal.returns-clause-complete
returns-clause-complete c h ts x rest more d e = (statements_read h).stmt ts x rest more d e
