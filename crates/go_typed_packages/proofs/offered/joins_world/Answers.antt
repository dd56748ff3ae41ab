use Rattle.go_typed_packages.proofs.JoinedWorlds.{offered_joins}
use Rattle.go_typed_packages.proofs.offered.joins_world.Goals as goal

pub returns : goal.returns
returns c s u p public w some foreign new t = offered_joins s u p w t new some foreign public
