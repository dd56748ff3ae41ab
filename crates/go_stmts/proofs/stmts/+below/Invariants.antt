use Rattle.go_stmts.proofs.stmts.+below.Given as goal

abbrev pub decreases-below : goal.decreases-below
decreases-below l = l.readers.height
