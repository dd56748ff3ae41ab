use Rattle.go_typed_packages.proofs.JoinedWorlds.{all_owned}
use Rattle.go_typed_packages.proofs.offered.owned.Goals as goal

pub returns : goal.returns
returns c s u p w t = all_owned s u p w t
