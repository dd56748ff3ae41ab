use Rattle.go_taken_packages.proofs.OverAll.{over_all, skipped_over_all}
use Rattle.go_taken_packages.proofs.laws.over_all.Goals as goal

pub returns-clause-becomes : goal.returns-clause-becomes
returns-clause-becomes c = λ bits us xs w own b n u x e f. over_all bits us xs w own b n u x e f

pub returns-clause-skipped : goal.returns-clause-skipped
returns-clause-skipped c = λ bits us xs w xss own b s n u x k e f g. skipped_over_all bits us xs w own b xss s n u x k e f g
