use Rattle.go_typed_packages.proofs.JoinedWorlds.{all_formed}
use Rattle.go_typed_packages.proofs.offered.formed.Goals as goal

pub returns : goal.returns
returns c s u p w t = all_formed s u p w t
