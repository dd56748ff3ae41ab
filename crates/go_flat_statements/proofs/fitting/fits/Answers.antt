use Rattle.go_flat_statements.specs.Flat.{Fits}
use Rattle.go_syntax.specs.declared.statement.StmtKind.{out-StmtKind}
use Rattle.go_walks.proofs.Told.{asked_holds}
use Rattle.go_flat_statements.proofs.fitting.fits.Goals as goal

pub returns : goal.returns
returns c = asked_holds (λ F. Fits F c.args.frame.now.results.now (out-StmtKind c.args.kind.now)) c.new-context.result.env.now c.args.env.now c.new-context.ensures c.fitting.result c.holds.result c.holds.ensures c.fitting.ensures
