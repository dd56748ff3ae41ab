use Rattle.go_blocks.proofs.levels.+below.Given as goal

abbrev pub decreases-below : goal.decreases-below
decreases-below l = l.height
