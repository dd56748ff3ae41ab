use Rattle.api_kept_relations.proofs.Preserving.{preserves}
use Rattle.api_kept_relations.proofs.laws.worlds_preserve.Goals as goal

pub returns : goal.returns
returns c = λ old new before after pairs T U h k i j z y v w x a. preserves old new before after pairs T U (record { holds = h; compatible = k; old_world = i; new_world = j; share = z; stay = y; serves = v; serves_too = w; share_too = x; alone = a })
