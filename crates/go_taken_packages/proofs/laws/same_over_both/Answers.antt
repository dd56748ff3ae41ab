use Rattle.go_taken_packages.proofs.TakenWorlds.{becomes, reaches, skipped}
use Rattle.go_taken_packages.proofs.laws.same_over_both.Goals as goal

pub returns-clause-reaches : goal.returns-clause-reaches
returns-clause-reaches c = λ bits us vs xs ys w v taken own other a b t u imports. reaches bits us vs xs ys w v taken own other a b t u imports

pub returns-clause-becomes : goal.returns-clause-becomes
returns-clause-becomes c = λ bits us vs xs ys w v taken own other a b t u x imports k. becomes bits us vs xs ys w v taken own other a b t u imports x k

pub returns-clause-skipped : goal.returns-clause-skipped
returns-clause-skipped c = λ bits us vs xs ys w v taken own other a b t u s imports k. skipped bits us vs xs ys w v taken own other a b t u imports s k
