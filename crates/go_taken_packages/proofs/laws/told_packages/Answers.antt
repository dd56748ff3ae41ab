use Rattle.go_taken_packages.proofs.ToldPackages.{are_taken, one_more, taken_as}
use Rattle.go_taken_packages.proofs.laws.told_packages.Goals as goal

pub returns-clause-taken : goal.returns-clause-taken
returns-clause-taken c = λ ts vs own has. are_taken ts vs own has

pub returns-clause-next : goal.returns-clause-next
returns-clause-next c = λ paths ts t. one_more paths ts t

pub returns-clause-imports : goal.returns-clause-imports
returns-clause-imports c = λ paths t e. taken_as paths t e
