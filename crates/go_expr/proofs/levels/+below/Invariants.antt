use Rattle.go_expr.proofs.levels.+below.Given as goal

abbrev pub decreases-below : goal.decreases-below
decreases-below l = l.height
