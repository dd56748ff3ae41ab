use Rattle.go_level_laws.proofs.Orders.{other_levels, same_outcome}
use Rattle.go_level_laws.proofs.laws.one_by_levels.Goals as goal

pub returns : goal.returns
returns c = λ bits us f g a b n x y o here yonder one other e k.
    same_outcome bits us o.own_paths o.paths a b f here one (other_levels bits us o.own_paths o.paths b g f yonder here other) n x y e k
