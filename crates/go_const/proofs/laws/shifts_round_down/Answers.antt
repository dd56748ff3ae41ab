use Rattle.go_const.proofs.Quotients.{rounded_down}
use Rattle.go_const.proofs.laws.shifts_round_down.Goals as goal

pub returns : goal.returns
returns c = rounded_down
