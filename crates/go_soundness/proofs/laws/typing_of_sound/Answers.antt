use Rattle.go_soundness.proofs.JoinedTypings.{sound_typed}
use Rattle.go_soundness.proofs.laws.typing_of_sound.Goals as goal

pub returns : goal.returns
returns c s u apart h = sound_typed s u apart h
