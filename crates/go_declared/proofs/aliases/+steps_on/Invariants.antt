use Rattle.go_declared.proofs.aliases.+steps_on.Given as goal

abbrev pub decreases-steps_on : goal.decreases-steps_on
decreases-steps_on l = l.times
