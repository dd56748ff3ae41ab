use Rattle.std.proofs.Common.{refl}
use Rattle.go_exposed.proofs.OneWorld.{one_become, one_first, one_world, whole_world, world_or_refused}
use Rattle.go_exposed.proofs.laws.one_world.Goals as goal

pub returns-clause-outcomes : goal.returns-clause-outcomes
returns-clause-outcomes c = λ bits w us xs ys v z a b. one_become bits refl a b

pub returns-clause-world : goal.returns-clause-world
returns-clause-world c = λ bits us v w a b. one_world bits us v w a b

pub returns-clause-refusal : goal.returns-clause-refusal
returns-clause-refusal c = λ bits us m n q r a b. one_first bits us m n q r a b

pub returns-clause-apart : goal.returns-clause-apart
returns-clause-apart c = λ bits us w n r a b. world_or_refused bits us w n r a b

pub returns-clause-whole : goal.returns-clause-whole
returns-clause-whole c = λ bits us w a. whole_world bits us w a
