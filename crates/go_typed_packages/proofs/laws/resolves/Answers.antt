use Rattle.go_typed_packages.proofs.JoinedWorlds.{typed_resolved}
use Rattle.go_typed_packages.proofs.laws.resolves.Goals as goal

pub returns : goal.returns
returns c s u p public w new t = typed_resolved s u p w t new
