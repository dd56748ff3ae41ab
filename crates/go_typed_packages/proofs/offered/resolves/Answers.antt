use Rattle.go_typed_packages.proofs.JoinedWorlds.{offered_resolved}
use Rattle.go_typed_packages.proofs.offered.resolves.Goals as goal

pub returns : goal.returns
returns c s u p public w some new t = offered_resolved s u p w t new some
