use Rattle.go_taken_packages.proofs.TakenOver.{left_out, offered}
use Rattle.go_taken_packages.proofs.laws.taken_next.Goals as goal

pub returns-clause-offered : goal.returns-clause-offered
returns-clause-offered c = λ bits us vs w v taken own other t k l u p h imports e. offered bits us vs w v taken own other t k l u p h imports e

pub returns-clause-skipped : goal.returns-clause-skipped
returns-clause-skipped c = λ bits us vs w v taken xss own other t k l skips n u s e f imports. left_out bits us vs w v taken own other t k l xss skips n u s e f imports
