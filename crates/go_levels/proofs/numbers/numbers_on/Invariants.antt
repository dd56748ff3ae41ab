use Rattle.go_levels.proofs.LevelLists.{Numbers}
use Rattle.go_levels.proofs.numbers.numbers_on.Given as goal

abbrev pub invariant-loop-number : goal.invariant-loop-number
invariant-loop-number l = Numbers l.levels l.level l.number l.numbers
