use Rattle.go_model.proofs.MoreWorlds.{more_world}
use Rattle.go_model.proofs.laws.added_package.Goals as goal

pub returns : goal.returns
returns c = λ w p public i new kept own. more_world w p i new public kept own
