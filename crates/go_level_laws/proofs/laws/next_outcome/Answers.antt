use Rattle.go_level_laws.proofs.NextOutcomes.{all_below, below_kept, next_become, next_skipped, none_become}
use Rattle.go_level_laws.proofs.laws.next_outcome.Goals as goal

pub returns-clause-none : goal.returns-clause-none
returns-clause-none c = λ bits us level. none_become us level bits

pub returns-clause-below : goal.returns-clause-below
returns-clause-below c = λ us level a k h. all_below us level a k h

pub returns-clause-next : goal.returns-clause-next
returns-clause-next c = λ bits us level a n u x by high is needs b. next_become us level bits a n u x by high is needs b

pub returns-clause-kept : goal.returns-clause-kept
returns-clause-kept c = λ us level a n x k l. below_kept us level a n x k l

pub returns-clause-skipped : goal.returns-clause-skipped
returns-clause-skipped c = λ bits us level a n u x xss xs high is k s. next_skipped us level bits a n u x xss xs high is k s
