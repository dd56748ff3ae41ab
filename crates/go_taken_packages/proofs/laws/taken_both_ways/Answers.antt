use Rattle.go_taken_packages.proofs.TakenLists.{in_longer, turned}
use Rattle.go_taken_packages.proofs.laws.taken_both_ways.Goals as goal

pub returns-clause-turned : goal.returns-clause-turned
returns-clause-turned c = λ us vs taken own t. turned us vs taken t own

pub returns-clause-more : goal.returns-clause-more
returns-clause-more c = λ us vs more taken own has t. in_longer us vs taken t more own has
