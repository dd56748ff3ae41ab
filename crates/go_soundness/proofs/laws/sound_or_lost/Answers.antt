use Rattle.go_soundness.proofs.Sound.{sound}
use Rattle.go_soundness.proofs.Unsound.{lost_unsound}
use Rattle.go_soundness.proofs.laws.sound_or_lost.Goals as goal

pub returns-clause-lost : goal.returns-clause-lost
returns-clause-lost c = λ s u a n apart A l k. lost_unsound s u a n apart A l k

pub returns-clause-sound : goal.returns-clause-sound
returns-clause-sound c = λ s u a lost n apart A F l e. sound s u a A lost F apart n l e
