use Rattle.go_exposed.proofs.WholePackages.{typed_offered}
use Rattle.go_typed_packages.proofs.JoinedWorlds.{offered_joins}
use Rattle.go_typed_packages.proofs.laws.joins_world.Goals as goal

pub returns : goal.returns
returns c s u p public w some foreign new t = offered_joins s u p w (typed_offered s u p t) new some foreign public
