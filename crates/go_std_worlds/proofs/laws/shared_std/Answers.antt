use Rattle.go_std_worlds.proofs.SameStdWorlds.{same_std}
use Rattle.go_std_worlds.proofs.laws.shared_std.Goals as goal

pub returns : goal.returns
returns c = λ bits us vs w v a b x y same k l. same_std bits us vs w v a b x y same k l
