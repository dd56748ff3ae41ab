use Rattle.api_kept_relations.proofs.Keeping.{keeps}
use Rattle.api_kept_relations.proofs.laws.worlds_keep.Goals as goal

pub returns : goal.returns
returns c = λ old new before after pairs E F h k i j z y v w x a s f. keeps old new before after pairs E F (record { holds = h; compatible = k; old_world = i; new_world = j; share = z; stay = y; serves = v; serves_too = w; share_too = x; alone = a }) s f
