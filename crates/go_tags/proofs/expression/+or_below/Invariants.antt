use Rattle.go_tags.proofs.expression.+or_below.Given as goal

abbrev pub decreases-or_below : goal.decreases-or_below
decreases-or_below l = l.depth
