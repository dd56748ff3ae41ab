use Rattle.go_typings.proofs.SoundDeclarations.{typed_sound}
use Rattle.go_typings.proofs.laws.sound_declarations.Goals as goal

pub returns : goal.returns
returns c s u a n t l = typed_sound s u a t n l
