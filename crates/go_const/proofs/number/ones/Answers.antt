use Rattle.go_const.proofs.Bounds.{ones_is}
use Rattle.go_const.proofs.number.ones.Goals as goal

pub returns : goal.returns
returns c = ones_is c.args.bits c.min.result c.min.ensures
