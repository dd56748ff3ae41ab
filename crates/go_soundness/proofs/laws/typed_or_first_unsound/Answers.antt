use Rattle.go_soundness.proofs.Sound.{first_unsound, typed}
use Rattle.go_soundness.proofs.laws.typed_or_first_unsound.Goals as goal

pub returns-clause-typed : goal.returns-clause-typed
returns-clause-typed c = λ s u a lost A F h. typed s u a A lost F h

pub returns-clause-first : goal.returns-clause-first
returns-clause-first c = λ s u a lost n apart A F l e h. first_unsound s u a A lost F apart n l e h
