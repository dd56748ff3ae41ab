use Rattle.go_taken_packages.proofs.TypedNames.{typed_names}
use Rattle.go_std_worlds.proofs.laws.typed_names.Goals as goal

pub returns : goal.returns
returns c = λ s u reached p r all t. typed_names s u reached p r all t
